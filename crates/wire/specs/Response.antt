-- Channel D: responses over the bus, each beat with what travels beside it.
use Rattle.std.specs.Prelude.{◌≡◌, ℕ, ◌+◌, ◌^◌, true, false, cond, ◌&&◌, List, [], ◌∷◌, map, length, replicate, Ok, Err, refl}
use Rattle.std.proofs.Common.{sym, ap, ◌∙◌}
use Rattle.std.proofs.lemmas.Bool.{cond-true, cond-false}
use Rattle.std.proofs.lemmas.Nat.{pow_pos}
use Rattle.message.specs.declared.refusal.Refusal.TheVariants as no
use Rattle.message.specs.declared.response.ResponseHead.{ResponseHead}
use Rattle.message.specs.declared.response.ResponseOpcode.{ResponseOpcode}
use Rattle.message.specs.Kind.{placed}
use Rattle.message.specs.Response.{Response, response, LegalResponse, response_kinds, response_has_data, not_denied}
use Rattle.message.proofs.Placed.{multiple, no_rest, placed_parts}
use Rattle.message.proofs.Responding.{whole_placed}
use Rattle.beat.specs.declared.response.ResponseBeat.{ResponseBeat}
use Rattle.beat.specs.declared.response.Sideband.{Sideband}
use Rattle.beat.specs.Channel.{Right, agree}
use Rattle.beat.specs.Response.{response_beats, response_header, response_beat, beside, head_of, corrupt_fits, response_laws}
use Rattle.beat.proofs.Reading.{agreed}
use Rattle.beat.proofs.Reading.{agree_self}
use Rattle.wire.specs.Beats.{HoldMask}
use Rattle.wire.specs.Request.{passed}
use Rattle.wire.specs.Rules.{Rules}
use Rattle.wire.specs.Messages.{Message, Messages, Owes, rules_of}

-- a beat of the channel
abbrev pub Beat : Type 0
Beat = ResponseBeat × Sideband

-- responses as messages: which are legal; a beat of one is corrupt where there are data and they are denied
abbrev pub response_messages : Messages ResponseOpcode ResponseHead Beat
response_messages =
    record {
      Legal = λ k m. LegalResponse k (response m.head m.bytes);
      Fits = λ k h b. b.0.corrupt ≡ (h.denied && response_has_data k);
    }

-- what joining has to know of responses
abbrev pub response_rules : Rules Beat ResponseHead ResponseOpcode (Message ResponseHead)
response_rules = rules_of response_kinds response_beats response_messages

-- corrupt is right by the beat's own denied exactly where it is by that of the head
fitting : (k : ResponseOpcode) (h : ResponseHead) (b : Beat) → corrupt_fits k b.0 ≡ true → response_header (head_of b.0 b.1) ≡ response_header h → b.0.corrupt ≡ (h.denied && response_has_data k)
fitting k h b own e =
    agreed b.0.corrupt (b.0.denied && response_has_data k) own ∙ ap (λ x. x.denied && response_has_data k) e

flagged : (k : ResponseOpcode) (h : ResponseHead) (b : Beat) → response_header (head_of b.0 b.1) ≡ response_header h → b.0.corrupt ≡ (h.denied && response_has_data k) → corrupt_fits k b.0 ≡ true
flagged k h b e fits =
    ap (agree b.0.corrupt) (ap (λ x. x.denied && response_has_data k) e ∙ sym fits) ∙ agree_self b.0.corrupt

-- masks of no bits
no_masks : (k : ResponseOpcode) (h : ResponseHead) (f n j : ℕ) (bs : List Beat) → HoldMask f n j (map (λ b. 0) bs) 0
no_masks k h f n j [] = tt
no_masks k h f n j (b ∷ bs) = (response_laws.cut_mask k h f n j 0, no_masks k h f n (j + 1) bs)

-- equal headers and equal denials make equal heads
same_head : (g h : ResponseHead) → response_header g ≡ response_header h → g.denial ≡ h.denial → g ≡ h
same_head g h e d =
    λ i. record {
      opcode = (e i).opcode;
      param = (e i).param;
      size = (e i).size;
      source = (e i).source;
      address = (e i).address;
      denied = (e i).denied;
      denial = d i;
    }

-- a legal response
module _ (k : ResponseOpcode) (a : Response) (l : LegalResponse k a) where
  right : Right response_kinds k (response_header a.head) (length a.bytes)
  right =
      record { size = l.whole.size; aligned = no_rest a.head.address a.head.size l.whole.multiple; long = l.whole.whole }

  -- where it is not denied, each of its beats brings its head
  granted : (b : Beat) → response_header (head_of b.0 b.1) ≡ response_header a.head → a.head.denied ≡ false → head_of b.0 b.1 ≡ a.head
  granted b e d =
      same_head (head_of b.0 b.1) a.head e
      (cond-false b.0.denied b.1.denial not_denied (ap (λ x. x.denied) e ∙ d) ∙ sym (l.unblamed d))

-- a beat with data of its message brings a legal response
legal : (k : ResponseOpcode) (b : Beat) (bytes : List ℕ) → placed response_kinds b.0.opcode b.0.param b.0.size b.1.address ≡ Ok k → Right response_kinds k (response_header (head_of b.0 b.1)) (length bytes) → (b.0.denied ≡ true → bytes ≡ replicate (length bytes) 0) → LegalResponse k (response (head_of b.0 b.1) bytes)
legal k b bytes place r zeros =
    record {
      whole =
          record {
            opcode = (placed_parts response_kinds b.0.opcode b.0.param b.0.size b.1.address k place).of;
            size = r.size;
            multiple = multiple b.1.address b.0.size r.aligned;
            whole = r.long;
          };
      zeros = zeros;
      unblamed = λ d. cond-false b.0.denied b.1.denial not_denied d;
    }

-- the cutter puts a denial beside each beat
denied_beat : (k : ResponseOpcode) (h : ResponseHead) (lanes : ℕ) → h.denied ≡ true → head_of (response_beat k h lanes) (beside h) ≡ h
denied_beat k h lanes d =
    same_head (head_of (response_beat k h lanes) (beside h)) h refl (cond-true h.denied h.denial not_denied d)

-- what channel D owes
pub response_owes : Owes response_kinds response_beats response_messages
response_owes =
    record {
      right = λ k m l. right k (response m.head m.bytes) l;
      place = λ k m l. whole_placed (response m.head m.bytes) k l.whole;
      zeros = λ k m l. l.zeros;
      below = λ k m l. pow_pos (2 ^ m.head.size);
      masked = λ k m l. refl;
      granted = λ k m l. granted k (response m.head m.bytes) l;
      admitted = λ k m l b f n j e fits is le. ap (λ t. cond t (Ok tt) (Err no.Corrupt)) (flagged k m.head b e fits);
      fitting = λ k h b f n own e. fitting k h b (passed (corrupt_fits k b.0) no.Corrupt own) e;
      held = λ k h f n bs a. no_masks k h f n 0 bs;
      legal = λ k b f n bs bytes a. legal k b bytes;
      cut = λ k h mask lanes. (refl, refl, denied_beat k h lanes);
    }
