-- Channel A: requests in beats.
use Rattle.std.specs.Prelude.{ℕ, ◌/◌, ◌%◌, ◌*◌, ◌^◌, Bool, false, cond, Ok, Err, ◌==◌, refl}
use Rattle.message.specs.declared.refusal.Refusal.TheVariants as no
use Rattle.message.specs.declared.operation.Operation.{Operation}
use Rattle.message.specs.declared.request.RequestHead.{RequestHead}
use Rattle.message.specs.Request.{request, checked, partial}
use Rattle.beat.specs.declared.header.Header.{Header}
use Rattle.beat.specs.declared.request.RequestBeat.{RequestBeat}
use Rattle.beat.specs.Channel.{Beats, Laws}
use Rattle.beat.specs.Lanes.{active_lanes}

-- what is alike in every beat of a request
abbrev pub request_header : RequestHead → Header
request_header h =
    record { opcode = h.opcode; param = h.param; size = h.size; source = h.source; address = h.address; denied = false }

-- a head with another mask
abbrev pub with_mask : RequestHead → ℕ → RequestHead
with_mask h m =
    record { opcode = h.opcode; param = h.param; size = h.size; source = h.source; address = h.address; mask = m }

-- the head of a beat's message, with what is known of its mask
abbrev pub head_of : RequestBeat → ℕ → RequestHead
head_of b m =
    record { opcode = b.opcode; param = b.param; size = b.size; source = b.source; address = b.address; mask = m }

-- a lane mask is the active lanes; a partial one has no bit but theirs
abbrev pub lane_mask_fits : Operation → ℕ → ℕ → ℕ → Bool
lane_mask_fits o first count mask =
    cond (partial o) (mask / 2 ^ first % 2 ^ count * 2 ^ first == mask) (mask == active_lanes first count)

-- a beat of a request
abbrev pub request_beat : RequestHead → ℕ → ℕ → RequestBeat
request_beat h mask lanes =
    record { opcode = h.opcode; param = h.param; size = h.size; source = h.source; address = h.address; mask = mask; lanes = lanes }

-- requests as a channel: their beats have lane masks
abbrev pub request_beats : Beats Operation RequestHead RequestBeat
request_beats =
    record {
      header = request_header;
      mask = λ h. h.mask;
      with_mask = with_mask;
      start = λ b. head_of b 0;
      lanes = λ b. b.lanes;
      lane_mask = λ b. b.mask;
      own = λ o first count b. cond (lane_mask_fits o first count b.mask) (Ok tt) (Err no.Mask);
      checked = λ h bytes. checked (request h bytes);
      beat = λ o h mask lanes. request_beat h mask lanes;
    }

pub request_laws : Laws request_beats
request_laws =
    record {
      again = λ h m n. refl;
      header_kept = λ h m. refl;
      unmasked = λ b. refl;
      unset = λ b. refl;
      masked = λ h b first count n. refl;
      cut_mask = λ o h first count j x. refl;
      cut_lanes = λ o h m x. refl;
    }
