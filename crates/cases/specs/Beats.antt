-- The worked cases on beats: on what the product's calls were made, and what they answered.
use Rattle.std.specs.Prelude.{◌≡◌, ℕ, List, [], Some, None, Ok, Err, Option, Result}
use Rattle.message.specs.declared.refusal.Refusal.{Refusal}
use Rattle.message.specs.declared.request.RequestHead.{RequestHead}
use Rattle.message.specs.Request.{operation_kinds}
use Rattle.beat.specs.declared.request.RequestBeat.{RequestBeat}
use Rattle.beat.specs.Channel.{cut_message}
use Rattle.beat.specs.Request.{request_beats}
use Rattle.cases.specs.declared.beats.BeatCases.{BeatCases}

-- a Get of two bytes
abbrev pub get_2 : ℕ → RequestHead
get_2 address = record { opcode = 4; param = 0; size = 1; source = 0; address = address; mask = 3 }

-- a beat with this lane mask
abbrev pub Masked : ℕ → Result (Option RequestBeat) Refusal → Type 0
Masked mask (Ok (Some b)) = b.mask ≡ mask
Masked mask (Ok None) = ⊥
Masked mask (Err e) = ⊥

-- a beat that was cut, and its lane mask
pub record Cut (width : ℕ) (q : RequestHead) (bytes : List ℕ) (index mask : ℕ) (r : Result (Option RequestBeat) Refusal) : Type 0 where
  pub beat : r ≡ cut_message operation_kinds request_beats width q bytes index
  pub masked : Masked mask r

pub record WorkedBeats (c : BeatCases) : Type 0 where
  -- of width 4, the first beat of a Get of size 1 at address 6 has the lane mask c
  pub beat_of_2_at_6 : Cut 4 (get_2 6) [] 0 0xc c.beat_of_2_at_6
