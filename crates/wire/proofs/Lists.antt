-- How a list of beats ends, on any channel.
use Rattle.std.proofs.Common.{◌≡◌, ℕ, suc, ◌+◌, ◌<◌, ◌≤◌, List, [], ◌∷◌, ◌++◌, length, get_or, take, Some, None, Ok, Err, Option, Result, sym, refl, ap, ◌∙◌, subst, arith}
use Rattle.std.proofs.lemmas.List.{length-take-le, take_more, take_all, get_or_read}
use Rattle.message.specs.declared.refusal.Refusal.{Refusal}
use Rattle.beat.specs.declared.begun.Begun.TheVariants.{Whole, Half}
use Rattle.beat.specs.declared.width.Width.{Width}
use Rattle.beat.specs.Width.{width_of}
use Rattle.beat.proofs.Verdicts.{not_refused, carried_on}
use Rattle.wire.specs.declared.joined.Joined.{Joined}
use Rattle.wire.specs.declared.joined.Unread.{Unread}
use Rattle.wire.specs.Rules.{Rules, Read}
use Rattle.wire.specs.Joins.{unread, Ends, EndsList, Joins, Waits, Reached, Begins}

-- a beat after the first one
pub later : {B : Type 0} (b : B) (bs : List B) (i : ℕ) (c : B) → c ≡ get_or bs i c → c ≡ get_or (b ∷ bs) (i + 1) c
later b bs i c is = let next : suc i ≡ i + 1 = omega arith in is ∙ ap (λ n. get_or (b ∷ bs) n c) next

module _ {B H K M : Type 0} (ch : Rules B H K M) where
  next_taken : (bs : List B) (i : ℕ) (c : B) → i < length bs → c ≡ get_or bs i c → take i bs ++ c ∷ [] ≡ take (i + 1) bs
  next_taken bs i c lt is = ap (λ x. take i bs ++ x ∷ []) is ∙ sym (take_more bs i c lt)

  -- beat i is the last one
  pub ends_whole : {U : Type 0} (waits : Waits ch U) (w : Width) (k : K) (b : B) (bs : List B) (i : ℕ) (c : B) (h : H) (xs ys : List ℕ) → i < length bs → c ≡ get_or bs i c → Reached ch waits w k b (take i bs ++ c ∷ []) xs (Whole h) ys → Ends ch w k b bs xs (Ok (Some (record { head = h; beats = i + 1 }))) ys
  ends_whole waits w k b bs i c h xs ys lt is r =
      let all = next_taken bs i c lt is in
      let long : length (take (i + 1) bs) ≡ i + 1 = length-take-le (i + 1) bs (omega arith) in
      (omega (arith, r.0, ap length all, long), omega arith, subst (λ cs. Read ch w k b cs xs ys) all r.1, r.2 ∙ ap (ch.joined_head w k b) all)

  -- or one more is due
  pub goes_on : {U : Type 0} (waits : Waits ch U) (w : Width) (k : K) (b : B) (bs : List B) (i : ℕ) (c : B) (u : U) (xs ys : List ℕ) → i < length bs → c ≡ get_or bs i c → waits w k b (take i bs ++ c ∷ []) xs u ys → waits w k b (take (i + 1) bs) xs u ys
  goes_on waits w k b bs i c u xs ys lt is h = subst (λ cs. waits w k b cs xs u ys) (next_taken bs i c lt is) h

  -- or it is refused
  pub ends_refused : (w : Width) (k : K) (b : B) (bs : List B) (i : ℕ) (c : B) (e : Refusal) (xs ys zs : List ℕ) → i < length bs → c ≡ get_or bs i c → Read ch w k b (take i bs) xs ys × (length (take i bs) < ch.due w k b) → ch.next w b c (length xs) ≡ Err e → zs ≡ ys → Ends ch w k b bs xs (Err (record { beat = i; refusal = e })) zs
  ends_refused w k b bs i c e xs ys zs lt is h j same = (
    lt,
    omega (arith, h.1, length-take-le i bs (omega arith)),
    subst (λ vs. Read ch w k b (take i bs) xs vs) (sym same) h.0,
    ap (λ x. ch.next w b x (length xs)) (sym (get_or_read bs i c lt is b)) ∙ j,
  )

  -- or there is none
  pub ends_missing : (w : Width) (k : K) (b : B) (bs : List B) (i : ℕ) (xs ys : List ℕ) → length bs ≤ i → Read ch w k b (take i bs) xs ys × (length (take i bs) < ch.due w k b) → Ends ch w k b bs xs (Ok None) ys
  ends_missing w k b bs i xs ys le h =
      let all = take_all i bs le in
      (omega (arith, h.1, ap length all), subst (λ cs. Read ch w k b cs xs ys) all h.0)

  -- the answer to a list whose first beat is read
  pub joins_begun : (n : ℕ) (w : Width) (k : K) (b : B) (bs l : List B) (xs : List ℕ) (r : Result (Option (Joined H)) Unread) (ys : List ℕ) → l ≡ b ∷ bs → width_of n ≡ Ok w → ch.first w b (length xs) ≡ Ok k → Ends ch w k b l xs r ys → Joins ch n l xs r ys
  joins_begun n w k b bs l xs r ys is wide j e =
      subst (λ cs. Joins ch n cs xs r ys) (sym is)
      (not_refused (unread 0) (width_of n) w r xs ys (λ v. EndsList ch v (b ∷ bs) xs r ys) wide
      (not_refused (unread 0) (ch.first w b (length xs)) k r xs ys (λ p. Ends ch w p b (b ∷ bs) xs r ys) j (subst (λ cs. Ends ch w k b cs xs r ys) is e)))

  -- a first beat that is the last one, or that others follow
  pub joins_whole : {U : Type 0} (waits : Waits ch U) (n : ℕ) (w : Width) (b : B) (bs : List B) (xs : List ℕ) (h : H) (ys : List ℕ) → width_of n ≡ Ok w → Begins ch waits n b xs (Ok (Whole h)) ys → Joins ch n (b ∷ bs) xs (Ok (Some (record { head = h; beats = 1 }))) ys
  joins_whole waits n w b bs xs h ys wide begins =
      let p = carried_on (λ e. e) (ch.first w b (length xs)) (Whole h) xs ys (λ k. Reached ch waits w k b (b ∷ []) xs (Whole h) ys) (begins w wide) in
      let r = p.2 in
      joins_begun n w p.0 b bs (b ∷ bs) xs (Ok (Some (record { head = h; beats = 1 }))) ys refl wide p.1 (r.0, omega arith, r.1, r.2)

  pub joins_half : {U : Type 0} (waits : Waits ch U) (n : ℕ) (w : Width) (b : B) (bs : List B) (xs : List ℕ) (u : U) (ys : List ℕ) (r : Result (Option (Joined H)) Unread) (zs : List ℕ) → width_of n ≡ Ok w → Begins ch waits n b xs (Ok (Half u)) ys → ((k : K) → waits w k b (b ∷ []) xs u ys → Ends ch w k b (b ∷ bs) xs r zs) → Joins ch n (b ∷ bs) xs r zs
  joins_half waits n w b bs xs u ys r zs wide begins rest =
      let p = carried_on (λ e. e) (ch.first w b (length xs)) (Half u) xs ys (λ k. Reached ch waits w k b (b ∷ []) xs (Half u) ys) (begins w wide) in
      joins_begun n w p.0 b bs (b ∷ bs) xs r zs refl wide p.1 (rest p.0 p.2)
