-- How many bytes a response carries.
use Rattle.std.proofs.Common.{◌≡◌, ℕ, ◌^◌, cond, refl}
use Rattle.message.specs.declared.response.ResponseOpcode.{ResponseOpcode}
use Rattle.message.specs.Response.{response_has_data, response_length}

pub length_by : (k : ResponseOpcode) (size : ℕ) → response_length k size ≡ cond (response_has_data k) (2 ^ size) 0
length_by k size = refl
