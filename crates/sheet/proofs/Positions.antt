-- Numerals read from the left, and bytes read by pairs.
use Rattle.std.proofs.Common.{◌≡◌, ℕ, suc, ◌+◌, ◌*◌, ◌^◌, ◌<◌, ◌≤◌, Bool, true, false, cond, leb, List, [], ◌∷◌, ◌++◌, length, get_or, drop, Some, None, Option, sym, refl, ap, ◌∙◌, append_assoc, mul_assoc, add-mul, mul-one, le-mul_of_pos_right, arith, map, subst, Bor, le-leb, leb-false, leb-true}
use native.Mathlib.Nat.{pow-zero, pow-succ', one-le-pow}
use borrow.Author.Tests.{lt-leb}
use Rattle.std.specs.Option.{option_map}
use Rattle.sheet.specs.declared.numeral.Base.{Base}
use Rattle.sheet.specs.declared.numeral.Base.TheVariants.{Decimal, Hexadecimal}
use Rattle.std.specs.declared.ops.ControlFlow.{ControlFlow}
use Rattle.std.specs.ControlFlow.{continue_value}
use Rattle.std.specs.Fn.{Called, Mut}
use Rattle.std.specs.Iterator.{AlwaysYields, TryFoldsItems, TryFoldTurn}
use Rattle.std.specs.List.{FoldsTo}
use Rattle.std.specs.Option.{MatchOption}
use Rattle.std.proofs.iter.Yields.{gives_left}
use Rattle.std.proofs.lemmas.Iterator.{YieldsList}
use Rattle.sheet.specs.Numeral.{and_then, radix, digit_of, digits_of, value, at_most, appended_of, number_of, byte_of, paired, bytes_of}

-- the number so far, and then the digits of bs
abbrev pub reads_on : Base → ℕ → ℕ → List ℕ → Option ℕ
reads_on base limit n [] = Some n
reads_on base limit n (b ∷ bs) = and_then (appended_of base limit n b) (λ m. reads_on base limit m bs)

pub radix_pos : (base : Base) → 0 < radix base
radix_pos Decimal = omega arith
radix_pos Hexadecimal = omega arith

module _ (base : Base) (limit : ℕ) where
  abbrev weighed : ℕ → List ℕ → Option ℕ
  weighed n ds = at_most limit (n * radix base ^ length ds + value base ds)

  carried : (n d k v : ℕ) → (n * radix base + d) * radix base ^ k + v ≡ n * radix base ^ suc k + (d * radix base ^ k + v)
  carried n d k v =
      omega (arith, ap (λ x. n * x) (pow-succ' (radix base) k), mul_assoc n (radix base) (radix base ^ k), add-mul (n * radix base) d (radix base ^ k))

  within : (m : ℕ) → m ≤ limit → at_most limit m ≡ Some m
  within m h = rw (le-leb m limit h)

  past : (m : ℕ) → limit < m → at_most limit m ≡ None
  past m h = rw (lt-leb m limit h)

  grown : (m k v : ℕ) → m ≤ m * radix base ^ k + v
  grown m k v = omega (arith, le-mul_of_pos_right {m = radix base ^ k} m (one-le-pow k (radix base) (radix_pos base)))

  join : (n d : ℕ) (o : Option (List ℕ)) → and_then o (weighed (n * radix base + d)) ≡ and_then (option_map (λ ds. d ∷ ds) o) (weighed n)
  join n d None = refl
  join n d (Some ds) = ap (at_most limit) (carried n d (length ds) (value base ds))

  none : (n d : ℕ) (o : Option (List ℕ)) → limit < n * radix base + d → and_then (option_map (λ ds. d ∷ ds) o) (weighed n) ≡ None
  none n d None h = refl
  none n d (Some ds) h =
      ap (at_most limit) (sym (carried n d (length ds) (value base ds)))
      ∙ past _ (omega (arith, grown (n * radix base + d) (length ds) (value base ds)))

  step : (n : ℕ) (bs : List ℕ) (o : Option ℕ) → ((m : ℕ) → m ≤ limit → reads_on base limit m bs ≡ and_then (digits_of base bs) (weighed m)) → and_then (and_then o (λ d. at_most limit (n * radix base + d))) (λ m. reads_on base limit m bs) ≡ and_then (and_then o (λ d. option_map (λ ds. d ∷ ds) (digits_of base bs))) (weighed n)
  step n bs None on = refl
  step n bs (Some d) on = split (leb (n * radix base + d) limit) refl
    where
      split : (t : Bool) → leb (n * radix base + d) limit ≡ t → and_then (at_most limit (n * radix base + d)) (λ m. reads_on base limit m bs) ≡ and_then (option_map (λ ds. d ∷ ds) (digits_of base bs)) (weighed n)
      split true e = rw e (on _ (leb-true _ _ e) ∙ join n d (digits_of base bs))
      split false e = rw e (sym (none n d (digits_of base bs) (leb-false _ _ e)))

  reads_all : (bs : List ℕ) (n : ℕ) → n ≤ limit → reads_on base limit n bs ≡ and_then (digits_of base bs) (weighed n)
  reads_all [] n h = sym (ap (at_most limit) (omega (arith, ap (λ x. n * x) (pow-zero (radix base)), mul-one n)) ∙ within n h)
  reads_all (b ∷ bs) n h = step n bs (digit_of base b) (reads_all bs)

  pub reads_word : (bs : List ℕ) → 0 < length bs → reads_on base limit 0 bs ≡ number_of base limit bs
  unfolding number_of
  reads_word [] h = absurd (omega arith)
  reads_word (b ∷ bs) h = reads_all (b ∷ bs) 0 (omega arith) ∙ from_zero (digits_of base (b ∷ bs))
    where
      from_zero : (o : Option (List ℕ)) → and_then o (weighed 0) ≡ and_then o (λ ds. at_most limit (value base ds))
      from_zero None = refl
      from_zero (Some ds) = ap (at_most limit) (omega arith)

  pub no_word : (bs : List ℕ) → length bs ≡ 0 → number_of base limit bs ≡ None
  unfolding number_of
  no_word [] h = refl
  no_word (b ∷ bs) h = absurd (omega arith)

pairs_more : (h l : Option ℕ) (o : Option (List ℕ)) → and_then (and_then h (λ x. option_map (λ ds. x ∷ ds) (and_then l (λ y. option_map (λ ds. y ∷ ds) o)))) paired ≡ and_then (and_then h (λ x. option_map (λ y. x * 16 + y) l)) (λ b. option_map (λ bs. b ∷ bs) (and_then o paired))
pairs_more None l o = refl
pairs_more (Some x) None o = refl
pairs_more (Some x) (Some y) None = refl
pairs_more (Some x) (Some y) (Some ds) = refl

-- the first pair, and then the others
pub bytes_more : (h l : ℕ) (bs : List ℕ) → bytes_of (h ∷ l ∷ bs) ≡ and_then (byte_of h l) (λ b. option_map (λ more. b ∷ more) (bytes_of bs))
unfolding bytes_of
bytes_more h l bs = pairs_more (digit_of Hexadecimal h) (digit_of Hexadecimal l) (digits_of Hexadecimal bs)

-- what is left of a word when the loop over its pairs comes to xs
pub pairs_end : (xs : List ℕ) → length xs ≡ 0 → bytes_of xs ≡ Some []
unfolding bytes_of
pairs_end [] h = refl
pairs_end (x ∷ xs) h = absurd (omega arith)

pub pairs_odd : (xs : List ℕ) → length xs ≡ 1 → bytes_of xs ≡ None
unfolding bytes_of
pairs_odd [] h = absurd (omega arith)
pairs_odd (x ∷ y ∷ xs) h = absurd (omega arith)
pairs_odd (x ∷ []) h = odd (digit_of Hexadecimal x)
  where
    odd : (o : Option ℕ) → and_then (and_then o (λ d. option_map (λ ds. d ∷ ds) (Some []))) paired ≡ None
    odd None = refl
    odd (Some d) = refl

pub pairs_none : (xs : List ℕ) → 2 ≤ length xs → byte_of (get_or xs 0 0) (get_or xs 1 0) ≡ None → bytes_of xs ≡ None
pairs_none [] h e = absurd (omega arith)
pairs_none (x ∷ []) h e = absurd (omega arith)
pairs_none (x ∷ y ∷ xs) h e = bytes_more x y xs ∙ ap (λ o. and_then o (λ b. option_map (λ more. b ∷ more) (bytes_of xs))) e

pub pairs_more_by : (front xs : List ℕ) (b : ℕ) → 2 ≤ length xs → byte_of (get_or xs 0 0) (get_or xs 1 0) ≡ Some b → option_map (λ more. (front ++ b ∷ []) ++ more) (bytes_of (drop 2 xs)) ≡ option_map (λ more. front ++ more) (bytes_of xs)
pairs_more_by front [] b h e = absurd (omega arith)
pairs_more_by front (x ∷ []) b h e = absurd (omega arith)
pairs_more_by front (x ∷ y ∷ xs) b h e =
    regroup (bytes_of xs)
    ∙ ap (option_map (λ more. front ++ more)) (sym (bytes_more x y xs ∙ ap (λ o. and_then o (λ b. option_map (λ more. b ∷ more) (bytes_of xs))) e))
  where
    regroup : (o : Option (List ℕ)) → option_map (λ more. (front ++ b ∷ []) ++ more) o ≡ option_map (λ more. front ++ more) (option_map (λ more. b ∷ more) o)
    regroup None = refl
    regroup (Some more) = ap Some (append_assoc front (b ∷ []) more)

pub mapped_same : (o : Option (List ℕ)) → option_map (λ more. [] ++ more) o ≡ o
mapped_same None = refl
mapped_same (Some more) = refl

-- what an answer says of the turns: to go on with a number, or to break off
abbrev goes_on : {E : Type 0} → Option ℕ → ControlFlow E ℕ → Type 0
goes_on r flow = r ≡ continue_value flow

-- `try_fold` over a word reads it on, where each call appends a digit
module _ (base : Base) (limit : ℕ) {F : Type 0} {g : Mut F (ℕ × (Bor ℕ × Unit {0})) (Option ℕ)} {f : F} (appends : (n : ℕ) (x : Bor ℕ) (r : Option ℕ) (q : F) → Called g f (n, (x, tt)) r q → (q ≡ f) × (r ≡ appended_of base limit n x.now)) where
  turns : (E : Type 0) (xs : List (Bor ℕ)) (rest : List ℕ) (p q : F × ℕ) → p.0 ≡ f → FoldsTo (TryFoldTurn g (goes_on {E = E})) p xs q → (q.0 ≡ f) × (reads_on base limit p.1 (map (λ x. x.now) xs ++ rest) ≡ reads_on base limit q.1 rest)
  turns E [] rest p q same done = (ap (λ s. s.0) (sym done) ∙ same, ap (λ s. reads_on base limit s.1 rest) done)
  turns E (x ∷ xs) rest p q same turn =
      let call = subst (λ h. Called g h (p.1, (x, tt)) turn.1.0 turn.0.0) same turn.1.1 in
      let k = appends p.1 x turn.1.0 turn.0.0 call in
      let on = turns E xs rest turn.0 q k.0 turn.2 in
      (on.0, ap (λ o. and_then o (λ m. reads_on base limit m (map (λ y. y.now) xs ++ rest))) (sym k.1 ∙ turn.1.2) ∙ on.1)

  ends : (E : Type 0) {S : Type 0} (steps : S → Option (Bor ℕ) → S → Type 0) (t u : S) (n : ℕ) (h : F) (rest : List ℕ) (o : Option (Bor ℕ)) (r : Option ℕ) → h ≡ f → AlwaysYields steps (λ x. x.now) t rest → steps t o u → MatchOption o (r ≡ Some n) (λ x. (v : Option ℕ) × (q : F) × (e : E) × Called g h (n, (x, tt)) v q × (v ≡ None) × (r ≡ None)) → reads_on base limit n rest ≡ r
  ends E steps t u n h [] None r same all turn done = sym done
  ends E steps t u n h (b ∷ bs) None r same all turn done = absurd (all.0 u turn)
  ends E steps t u n h [] (Some x) r same all turn done = absurd (all x u turn)
  ends E steps t u n h (b ∷ bs) (Some x) r same all turn done =
      let k = appends n x done.0 done.1 (subst (λ s. Called g s (n, (x, tt)) done.0 done.1) same done.3) in
      let byte : x.now ≡ b = (all.1 x u turn).0 in
      ap (λ o. and_then o (λ m. reads_on base limit m bs)) (ap (appended_of base limit n) (sym byte) ∙ sym k.1 ∙ done.4) ∙ sym done.5

  pub reads_folded : {E S : Type 0} {steps : S → Option (Bor ℕ) → S → Type 0} (s u : S) (n : ℕ) (word : List ℕ) (r : Option ℕ) → TryFoldsItems steps g (goes_on {E = E}) (λ _ r. r ≡ None) s f n r u → YieldsList steps (λ x. x.now) s word → r ≡ reads_on base limit n word
  reads_folded {E} {S} {steps} s u n word r run all =
      let left = gives_left steps (λ x. x.now) run.0 word s run.4.0 all.runs run.4.1 in
      let on = turns E run.0 left.0 (f, n) (run.2, run.3) refl run.5 in
      sym (ap (reads_on base limit n) left.1 ∙ on.1 ∙ ends E steps run.4.0 u run.3 run.2 left.0 run.1 r on.0 left.2 run.4.2 run.6)

-- a number keeps within its limit
pub number_bound : (base : Base) (limit : ℕ) (word : List ℕ) (n : ℕ) → number_of base limit word ≡ Some n → n ≤ limit
unfolding number_of
number_bound base limit [] n e = absurd (let z : ◌≡◌ {A = ℕ} 0 1 = cc in omega arith)
number_bound base limit (b ∷ bs) n e = of_digits (digits_of base (b ∷ bs)) e
  where
    of_value : (m : ℕ) (t : Bool) → leb m limit ≡ t → cond t (Some m) None ≡ Some n → n ≤ limit
    of_value m true l e = let same : m ≡ n = cc in omega (arith, leb-true _ _ l)
    of_value m false l e = absurd (let z : ◌≡◌ {A = ℕ} 0 1 = cc in omega arith)

    of_digits : (o : Option (List ℕ)) → and_then o (λ ds. at_most limit (value base ds)) ≡ Some n → n ≤ limit
    of_digits None e = absurd (let z : ◌≡◌ {A = ℕ} 0 1 = cc in omega arith)
    of_digits (Some ds) e = of_value (value base ds) (leb (value base ds) limit) refl e
