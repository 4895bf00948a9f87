-- Calls by what their judgements say.
use Rattle.std.proofs.Common.{◌≡◌, ℕ, List, Ok, Err, Result, sym, refl, subst, arith}
use Rattle.message.specs.declared.refusal.Refusal.{Refusal}
use Rattle.beat.specs.Begun.{UnlessRefused}

pub not_refused : {A B E : Type 0} (back : Refusal → E) (v : Result A Refusal) (a : A) (r : Result B E) (xs ys : List ℕ) (P : A → Type 0) → v ≡ Ok a → P a → UnlessRefused back v r xs ys P
not_refused back v a r xs ys P e p = subst (λ x. UnlessRefused back x r xs ys P) (sym e) p

-- a call that was carried out was not refused
pub carried_on : {A B E : Type 0} (back : Refusal → E) (v : Result A Refusal) (b : B) (xs ys : List ℕ) (P : A → Type 0) → UnlessRefused back v (Ok b) xs ys P → (a : A) × (v ≡ Ok a) × P a
carried_on back (Ok a) b xs ys P h = (a, refl, h)
carried_on back (Err e) b xs ys P h =
    let no = h.0 in
    let z : ◌≡◌ {A = ℕ} 0 1 = cc in
    absurd (omega arith)

-- a call that was refused was so by its judgement
pub stopped : {A B E : Type 0} (back : Refusal → E) (v : Result A Refusal) (r : Result B E) (x : E) (xs ys : List ℕ) (P : A → Type 0) → ((a : A) → P a → ⊥) → r ≡ Err x → UnlessRefused back v r xs ys P → (e : Refusal) × (v ≡ Err e) × (x ≡ back e) × (ys ≡ xs)
stopped back (Ok a) r x xs ys P none is h = absurd (none a h)
stopped back (Err e) r x xs ys P none is h =
    let same = h.0 in
    let at : x ≡ back e = cc in
    (e, refl, at, h.1)
