-- What judgements that refuse nothing say, of messages of any kind.
use Rattle.std.proofs.Common.{◌≡◌, ℕ, ◌*◌, ◌/◌, ◌%◌, ◌^◌, ◌≤◌, Bool, true, false, cond, not, eqb, Ok, Err, Result, sym, refl, ap, ◌∙◌, arith}
use native.Mathlib.Nat.{mul-mod_left}
use Rattle.std.proofs.lemmas.Nat.{div-add-mod'}
use Rattle.std.proofs.lemmas.Bool.{eqb-true, eq-eqb}
use Rattle.message.specs.declared.refusal.Refusal.{Refusal}
use Rattle.message.specs.declared.refusal.Refusal.TheVariants as no
use Rattle.message.specs.Refusal.{unless_refused}
use Rattle.message.specs.Kind.{Kinds, Small, aligned, length_of, fitted, placed, measured}

-- what is accepted passed the judgement before
pub accepted_before : {A B : Type 0} (r : Result A Refusal) (next : A → Result B Refusal) (b : B) → unless_refused r next ≡ Ok b → (a : A) × (r ≡ Ok a) × (next a ≡ Ok b)
accepted_before (Ok a) next b h = (a, refl, h)
accepted_before (Err e) next b h = let z : ◌≡◌ {A = ℕ} 0 1 = cc in absurd (omega arith)

pub accepted_by : {A : Type 0} (t : Bool) (e : Refusal) (r : Result A Refusal) (a : A) → cond (not t) (Err e) r ≡ Ok a → (t ≡ true) × (r ≡ Ok a)
accepted_by true e r a h = (refl, h)
accepted_by false e r a h = let z : ◌≡◌ {A = ℕ} 0 1 = cc in absurd (omega arith)

-- an address that is a multiple of a message's bytes
pub multiple : (address size : ℕ) → address % 2 ^ size ≡ 0 → (n : ℕ) × (address ≡ n * 2 ^ size)
multiple address size h = (address / 2 ^ size, omega (arith, div-add-mod' address (2 ^ size), h))

pub no_rest : (address size : ℕ) → (n : ℕ) × (address ≡ n * 2 ^ size) → address % 2 ^ size ≡ 0
no_rest address size m = ap (λ a. a % 2 ^ size) m.1 ∙ mul-mod_left m.0 (2 ^ size)

module _ {K : Type 0} (ks : Kinds K) where
  -- what is known of a message whose place is accepted
  pub record Placed (opcode param size address : ℕ) (k : K) : Type 0 where
    pub of : ks.of opcode param ≡ Ok k
    pub fits : ks.fits k size ≡ true
    pub aligned : address % 2 ^ size ≡ 0

  pub placed_parts : (opcode param size address : ℕ) (k : K) → placed ks opcode param size address ≡ Ok k → Placed opcode param size address k
  unfolding placed
  placed_parts opcode param size address k h =
      let a = accepted_before (ks.of opcode param) (λ p. fitted ks p size address) k h in
      let b = accepted_by (ks.fits a.0 size) no.Size (cond (not (aligned address size)) (Err no.Address) (Ok a.0)) k a.2 in
      let c = accepted_by (aligned address size) no.Address (Ok a.0) k b.1 in
      let same : a.0 ≡ k = cc in
      record {
        of = a.1 ∙ ap Ok same;
        fits = ap (λ p. ks.fits p size) (sym same) ∙ b.0;
        aligned = eqb-true (address % 2 ^ size) 0 c.0;
      }

  pub placed_right : Small ks → (opcode param size address : ℕ) (k : K) → placed ks opcode param size address ≡ Ok k → (size ≤ 6) × (address % 2 ^ size ≡ 0)
  placed_right small opcode param size address k e =
      let p = placed_parts opcode param size address k e in (small k size p.fits, p.aligned)

  pub placed_from : (opcode param size address : ℕ) (k : K) → Placed opcode param size address k → placed ks opcode param size address ≡ Ok k
  unfolding placed
  placed_from opcode param size address k p =
      let at : aligned address size ≡ true = eq-eqb (address % 2 ^ size) 0 p.aligned in
      rw (p.of, p.fits, at)

  -- data of the right length
  pub measured_parts : (k p : K) (size count : ℕ) → measured ks k size count ≡ Ok p → (count ≡ length_of ks k size) × (k ≡ p)
  measured_parts k p size count h =
      let a = accepted_by (eqb count (length_of ks k size)) no.Data (Ok k) p h in
      let same : k ≡ p = cc in
      (eqb-true count (length_of ks k size) a.0, same)

  pub measured_from : (k : K) (size count : ℕ) → count ≡ length_of ks k size → measured ks k size count ≡ Ok k
  measured_from k size count h =
      let e : eqb count (length_of ks k size) ≡ true = eq-eqb count (length_of ks k size) h in
      rw e
