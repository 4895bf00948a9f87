-- What is joined is exactly the legal messages, on any channel.
use Rattle.std.proofs.Common.{◌≡◌, ℕ, suc, ◌-◌, ◌<◌, List, [], ◌∷◌, ◌++◌, length, get_or, take, drop, Some, None, Ok, Err, Option, Result, sym, ap, ◌∙◌, subst, arith}
use Rattle.std.proofs.ByRecursion.{All-get_or}
use Rattle.std.proofs.lemmas.List.{length-take, length-take-le, get_or-take, take_all}
use Rattle.beat.specs.declared.width.Width.{Width}
use Rattle.beat.specs.Begun.{UnlessRefused}
use Rattle.beat.specs.Width.{width_of}
use Rattle.beat.proofs.Verdicts.{carried_on}
use Rattle.wire.specs.declared.joined.Joined.{Joined}
use Rattle.wire.specs.declared.joined.Unread.{Unread}
use Rattle.wire.specs.Rules.{Rules, Read, Source, SomeDue, Sound, Accepted, Complete, Counted, Cuts, cut_beats}
use Rattle.wire.specs.Joins.{unread, Ends, EndsList, Joins, WholeRead, Found, OnlyLegal, EveryLegal, Again}

module _ {B H K M : Type 0} (ch : Rules B H K M) where
  front : (n : ℕ) (b : B) (bs : List B) → 0 < n → take n (b ∷ bs) ≡ b ∷ take (n - 1) bs
  front n b bs some = let next : n ≡ suc (n - 1) = omega arith in ap (λ m. take m (b ∷ bs)) next

  found_in : SomeDue ch → Sound ch → (n : ℕ) (w : Width) (bs : List B) (xs : List ℕ) (j : Joined H) (ys : List ℕ) → width_of n ≡ Ok w → EndsList ch w bs xs (Ok (Some j)) ys → Found ch n bs xs (Ok (Some j)) ys
  found_in some_due sound n w [] xs j ys wide h =
      let never = h.0 in
      let z : ◌≡◌ {A = ℕ} 0 1 = cc in
      absurd (omega arith)
  found_in some_due sound n w (b ∷ bs) xs j ys wide h =
      let r : Result (Option (Joined H)) Unread = Ok (Some j) in
      let parts = carried_on (unread 0) (ch.first w b (length xs)) (Some j) xs ys (λ k. Ends ch w k b (b ∷ bs) xs r ys) h in
      let k = parts.0 in
      let e = parts.2 in
      let split = front j.beats b bs (omega (arith, some_due w k b (length xs) parts.1, e.0)) in
      let s = subst (λ cs. Source ch w k b cs) (sym split) (sound w k b (take (j.beats - 1) bs) xs ys (subst (λ cs. Read ch w k b cs xs ys) split e.2) (ap length (sym split) ∙ length-take-le j.beats (b ∷ bs) e.1 ∙ e.0)) in
      let beats : j.beats ≡ ch.count w k s.message = e.0 ∙ s.count_is in
      let head : j.head ≡ ch.head s.message = e.3 ∙ s.head_is in
      record {
        width = w;
        kind = k;
        message = s.message;
        wide = wide;
        legal = s.legal;
        carries = subst (λ n. ch.Carries w k s.message (take n (b ∷ bs))) beats s.carries;
        read =
            record {
              answer = λ i. Ok (Some (record { head = head i; beats = beats i }));
              buffer = e.2.buffer ∙ ap (λ zs. zs ++ drop (length zs) xs) s.bytes_are;
            };
      }

  pub only_legal : SomeDue ch → Sound ch → (n : ℕ) (bs : List B) (xs : List ℕ) (r : Result (Option (Joined H)) Unread) (ys : List ℕ) → Joins ch n bs xs r ys → OnlyLegal ch n bs xs r ys
  only_legal some_due sound n bs xs r ys h j e =
      let parts = carried_on (unread 0) (width_of n) (Some j) xs ys (λ w. EndsList ch w bs xs (Ok (Some j)) ys) (subst (λ x. Joins ch n bs xs x ys) e h) in
      subst (λ x. Found ch n bs xs x ys) (sym e) (found_in some_due sound n parts.0 bs xs j ys parts.1 parts.2)

  -- the answer to a list that begins with the beats of a legal message
  whole_read : (w : Width) (k : K) (m : M) (b : B) (bs : List B) (xs : List ℕ) (r : Result (Option (Joined H)) Unread) (ys : List ℕ) → (length (take (ch.count w k m) (b ∷ bs)) ≡ ch.count w k m) → Accepted ch w k m (length xs) b (take (ch.count w k m) (b ∷ bs)) → Ends ch w k b (b ∷ bs) xs r ys → WholeRead ch w k m xs r ys
  whole_read w k m b bs xs (Ok None) ys long a e = absurd (omega (arith, e.0, a.count_is, long, length-take (ch.count w k m) (b ∷ bs)))
  whole_read w k m b bs xs (Err x) ys long a e =
      let lt : x.beat < ch.count w k m = omega (arith, e.1, a.count_is) in
      let fine : ch.next w b (get_or (b ∷ bs) x.beat b) (length xs) ≡ Ok k =
      subst (λ c. ch.next w b c (length xs) ≡ Ok k) (get_or-take (ch.count w k m) (b ∷ bs) x.beat b lt) (All-get_or (λ c. ch.next w b c (length xs) ≡ Ok k) (take (ch.count w k m) (b ∷ bs)) x.beat b (omega (arith, long, lt)) a.accepted) in
      let bad = e.3 in
      let z : ◌≡◌ {A = ℕ} 0 1 = cc in
      absurd (omega arith)
  whole_read w k m b bs xs (Ok (Some j)) ys long a e =
      let beats : j.beats ≡ ch.count w k m = e.0 ∙ a.count_is in
      let taken : take j.beats (b ∷ bs) ≡ take (ch.count w k m) (b ∷ bs) = ap (λ n. take n (b ∷ bs)) beats in
      let head : j.head ≡ ch.head m = e.3 ∙ ap (ch.joined_head w k b) taken ∙ a.head_is in
      record {
        answer = λ i. Ok (Some (record { head = head i; beats = beats i }));
        buffer = e.2.buffer ∙ ap (λ zs. zs ++ drop (length zs) xs) (ap (ch.joined_bytes w k b) taken ∙ a.bytes_are);
      }

  pub every_legal : Complete ch → Counted ch → (n : ℕ) (bs : List B) (xs : List ℕ) (r : Result (Option (Joined H)) Unread) (ys : List ℕ) → Joins ch n bs xs r ys → EveryLegal ch n bs xs r ys
  every_legal complete counted n [] xs r ys h w k m wide l c roomy =
      let p = counted w k m (take (ch.count w k m) []) l c in
      absurd (omega (arith, p.0, p.1, length-take {A = B} (ch.count w k m) []))
  every_legal complete counted n (b ∷ bs) xs r ys h w k m wide l c roomy =
      let p = counted w k m (take (ch.count w k m) (b ∷ bs)) l c in
      let split = front (ch.count w k m) b bs p.1 in
      let a : Accepted ch w k m (length xs) b (take (ch.count w k m) (b ∷ bs)) =
      subst (λ cs. Accepted ch w k m (length xs) b cs) (sym split) (complete w k m (length xs) b (take (ch.count w k m - 1) bs) l roomy (subst (λ cs. ch.Carries w k m cs) split c)) in
      let inner : EndsList ch w (b ∷ bs) xs r ys = subst (λ v. UnlessRefused (unread 0) v r xs ys (λ x. EndsList ch x (b ∷ bs) xs r ys)) wide h in
      whole_read w k m b bs xs r ys p.0 a (subst (λ v. UnlessRefused (unread 0) v r xs ys (λ x. Ends ch w x b (b ∷ bs) xs r ys)) a.begun inner)

  pub again : Complete ch → Counted ch → Cuts ch → (n : ℕ) (bs : List B) (xs : List ℕ) (r : Result (Option (Joined H)) Unread) (ys : List ℕ) → Joins ch n bs xs r ys → Again ch n bs xs r ys
  again complete counted cuts n bs xs r ys h w k m wide l small e roomy =
      let cs = cut_beats ch w k m in
      let own = cuts w k m l small in
      let all : take (ch.count w k m) bs ≡ cs = ap (take (ch.count w k m)) e ∙ take_all (ch.count w k m) cs (omega (arith, (counted w k m cs l own).0)) in
      every_legal complete counted n bs xs r ys h w k m wide l (subst (λ x. ch.Carries w k m x) (sym all) own) roomy
