-- No message covers more than 64 bytes.
use Rattle.std.specs.Prelude.{◌≡◌, ℕ, ◌≤◌, Bool, true, false, cond, ◌||◌, ◌==◌, nat_le}
use Rattle.std.proofs.Common.{arith, ⊎_elim}
use Rattle.std.proofs.lemmas.Bool.{eqb-true, leb-true, or_cases}
use Rattle.message.specs.Kind.{Small}
use Rattle.message.specs.Request.{atomic, operation_kinds}
use Rattle.message.specs.Response.{response_kinds}

pub size_small_by : (t : Bool) (size : ℕ) → cond t (size == 2 || size == 3) (nat_le size 6) ≡ true → size ≤ 6
size_small_by true size h = ⊎_elim (λ e. omega (arith, eqb-true size 2 e)) (λ e. omega (arith, eqb-true size 3 e)) (or_cases (size == 2) (size == 3) h)
size_small_by false size h = leb-true size 6 h

pub size_small : Small operation_kinds
size_small o = size_small_by (atomic o)

pub response_small : Small response_kinds
response_small k size h = leb-true size 6 h
