-- Channel D: responses in beats, each beat with what travels beside it.
use Rattle.std.specs.Prelude.{◌≡◌, ℕ, ◌/◌, ◌%◌, ◌*◌, ◌^◌, Bool, cond, ◌&&◌, Ok, Err, refl}
use Rattle.std.proofs.Common.{◌∙◌, ap, sym, arith, zero-mul}
use Rattle.std.proofs.Math.Nat.{zero-div, zero-mod}
use Rattle.message.specs.declared.refusal.Refusal.TheVariants as no
use Rattle.message.specs.declared.response.ResponseHead.{ResponseHead}
use Rattle.message.specs.declared.response.ResponseOpcode.{ResponseOpcode}
use Rattle.message.specs.Response.{response, response_checked, response_has_data, not_denied}
use Rattle.beat.specs.declared.header.Header.{Header}
use Rattle.beat.specs.declared.response.ResponseBeat.{ResponseBeat}
use Rattle.beat.specs.declared.response.Sideband.{Sideband}
use Rattle.beat.specs.Channel.{Beats, Laws, agree}

-- what is alike in every beat of a response; its address travels beside them
abbrev pub response_header : ResponseHead → Header
response_header h =
    record { opcode = h.opcode; param = h.param; size = h.size; source = h.source; address = h.address; denied = h.denied }

-- what travels beside each beat of a response
abbrev pub beside : ResponseHead → Sideband
beside h = record { address = h.address; denial = h.denial }

-- the head of a beat's message; a denial counts only with denied
abbrev pub head_of : ResponseBeat → Sideband → ResponseHead
head_of b s =
    record {
      opcode = b.opcode;
      param = b.param;
      size = b.size;
      source = b.source;
      address = s.address;
      denied = b.denied;
      denial = cond b.denied s.denial not_denied;
    }

-- corrupt equals denied where there is data, and is not set elsewhere
abbrev pub corrupt_fits : ResponseOpcode → ResponseBeat → Bool
corrupt_fits k b = agree b.corrupt (b.denied && response_has_data k)

-- a beat of a response: corrupt where data are denied
abbrev pub response_beat : ResponseOpcode → ResponseHead → ℕ → ResponseBeat
response_beat k h lanes =
    record {
      opcode = h.opcode;
      param = h.param;
      size = h.size;
      source = h.source;
      denied = h.denied;
      corrupt = h.denied && response_has_data k;
      lanes = lanes;
    }

-- responses as a channel: they have no masks
abbrev pub response_beats : Beats ResponseOpcode ResponseHead (ResponseBeat × Sideband)
response_beats =
    record {
      header = response_header;
      mask = λ h. 0;
      with_mask = λ h m. h;
      start = λ b. head_of b.0 b.1;
      lanes = λ b. b.0.lanes;
      lane_mask = λ b. 0;
      own = λ k first count b. cond (corrupt_fits k b.0) (Ok tt) (Err no.Corrupt);
      checked = λ h bytes. response_checked (response h bytes);
      beat = λ k h mask lanes. (response_beat k h lanes, beside h);
    }

no_bits : (a b c : ℕ) → 0 ≡ 0 / 2 ^ a % 2 ^ b * 2 ^ c
no_bits a b c = sym (ap (λ n. n % 2 ^ b * 2 ^ c) (zero-div (2 ^ a)) ∙ ap (λ n. n * 2 ^ c) (zero-mod (2 ^ b)) ∙ zero-mul (2 ^ c))

pub response_laws : Laws response_beats
response_laws =
    record {
      again = λ h m n. refl;
      header_kept = λ h m. refl;
      unmasked = λ b. refl;
      unset = λ b. refl;
      masked = λ h b first count n. omega (arith, no_bits first count n);
      cut_mask = λ k h first count j x. no_bits (j * count) count first;
      cut_lanes = λ k h m x. refl;
    }
