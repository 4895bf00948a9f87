-- Channel A: requests over the bus.
use Rattle.std.specs.Prelude.{◌≡◌, ℕ, ◌+◌, ◌-◌, ◌*◌, ◌/◌, ◌%◌, ◌^◌, ◌<◌, ◌≤◌, Bool, true, false, cond, List, [], ◌∷◌, map, length, Ok, Err, Result, ◌==◌, refl}
use Rattle.std.proofs.Common.{sym, ap, subst, ◌∙◌, one-mul, zero-mul, div-one, mod-eq_of_lt, arith}
use Rattle.std.specs.List.{AllByRecursion}
use Rattle.std.proofs.Math.Pow.{ones_lt}
use Rattle.std.proofs.lemmas.Bool.{false≢true, eqb-true, eq-eqb, cond-true, cond-false}
use Rattle.std.proofs.lemmas.List.{length-map}
use Rattle.message.specs.declared.refusal.Refusal.{Refusal}
use Rattle.message.specs.declared.refusal.Refusal.TheVariants as no
use Rattle.message.specs.declared.operation.Operation.{Operation}
use Rattle.message.specs.declared.operation.Operation.TheVariants.{PutFullData, PutPartialData, ArithmeticData, LogicalData, Get, Intent}
use Rattle.message.specs.declared.request.RequestHead.{RequestHead}
use Rattle.message.specs.Kind.{placed}
use Rattle.message.specs.Operation.{has_data}
use Rattle.message.specs.Request.{Request, request, Legal, operation_kinds, partial, whole}
use Rattle.message.proofs.Judged.{legal_placed, legal_below, legal_full, legal_from}
use Rattle.beat.specs.declared.request.RequestBeat.{RequestBeat}
use Rattle.beat.specs.Channel.{Right}
use Rattle.beat.specs.Lanes.{beat_bits, active_lanes}
use Rattle.beat.specs.Request.{request_beats, request_header, head_of, with_mask, lane_mask_fits}
use Rattle.beat.proofs.Masks.{part_again}
use Rattle.beat.proofs.Requests.{legal_right}
use Rattle.wire.specs.Beats.{joined_mask, HoldMask}
use Rattle.wire.specs.Bits.{held_mask, mask_below, mask_full, whole_bits, held_whole}
use Rattle.wire.specs.Rules.{Rules}
use Rattle.wire.specs.Messages.{Message, Messages, All, Owes, rules_of}

-- requests as messages: which are legal; beside header, mask and lanes their beats have nothing
abbrev pub request_messages : Messages Operation RequestHead RequestBeat
request_messages = record { Legal = λ o m. Legal o (request m.head m.bytes); Fits = λ o h b. Unit {0} }

-- what joining has to know of requests
abbrev pub request_rules : Rules RequestBeat RequestHead Operation (Message RequestHead)
request_rules = rules_of operation_kinds request_beats request_messages

-- only requests with data are partial
whole_without_data : (o : Operation) → has_data o ≡ false → partial o ≡ false
whole_without_data PutFullData e = refl
whole_without_data PutPartialData e = e
whole_without_data (ArithmeticData a) e = refl
whole_without_data (LogicalData l) e = refl
whole_without_data Get e = refl
whole_without_data (Intent p) e = refl

-- heads with one header have one head but for the mask
unmasked : (g h : RequestHead) (m : ℕ) → request_header g ≡ request_header h → with_mask g m ≡ with_mask h m
unmasked g h m e =
    λ i. record { opcode = (e i).opcode; param = (e i).param; size = (e i).size; source = (e i).source; address = (e i).address; mask = m }

-- a judgement that refuses nothing
pub passed : (t : Bool) (e : Refusal) → ◌≡◌ {A = Result (Unit {0}) Refusal} (cond t (Ok tt) (Err e)) (Ok tt) → t ≡ true
passed true e h = refl
passed false e h = let z : ◌≡◌ {A = ℕ} 0 1 = cc in absurd (omega arith)

-- what a legal request says
module _ (o : Operation) (q : Request) (l : Legal o q) where
  -- the mask of one without data is whole
  mask_is : (d : Bool) → has_data o ≡ d → cond (has_data o) q.head.mask (whole q.head.size) ≡ q.head.mask
  mask_is true d = cond-true (has_data o) q.head.mask (whole q.head.size) d
  mask_is false d =
      cond-false (has_data o) q.head.mask (whole q.head.size) d ∙ sym (legal_full q o l (whole_without_data o d))

  -- the lane mask of each of its beats fits
  admitted : (f k j m : ℕ) → m ≡ beat_bits k j q.head.mask * 2 ^ f → (j + 1) * k ≤ 2 ^ q.head.size → (t : Bool) → partial o ≡ t → lane_mask_fits o f k m ≡ true
  admitted f k j m e le true p =
      cond-true (partial o) (m / 2 ^ f % 2 ^ k * 2 ^ f == m) (m == active_lanes f k) p
      ∙ eq-eqb _ m (ap (λ n. n * 2 ^ f) (ap (λ n. n / 2 ^ f % 2 ^ k) e ∙ part_again (q.head.mask / 2 ^ (j * k)) k f) ∙ sym e)
  admitted f k j m e le false p =
      cond-false (partial o) (m / 2 ^ f % 2 ^ k * 2 ^ f == m) (m == active_lanes f k) p
      ∙ eq-eqb m (active_lanes f k) (e ∙ ap (λ n. n * 2 ^ f) (ap (beat_bits k j) (legal_full q o l p) ∙ whole_bits (2 ^ q.head.size) j k le))

-- a lane mask that fits
module _ (o : Operation) (f k m : ℕ) (fits : lane_mask_fits o f k m ≡ true) where
  -- unless partial it is the active lanes
  pub active : partial o ≡ false → m ≡ active_lanes f k
  active p =
      eqb-true m (active_lanes f k) (sym (cond-false (partial o) (m / 2 ^ f % 2 ^ k * 2 ^ f == m) (m == active_lanes f k) p) ∙ fits)

  -- it has no bit outside them
  pub covered : (t : Bool) → partial o ≡ t → m / 2 ^ f % 2 ^ k * 2 ^ f ≡ m
  covered true p =
      eqb-true _ m (sym (cond-true (partial o) (m / 2 ^ f % 2 ^ k * 2 ^ f == m) (m == active_lanes f k) p) ∙ fits)
  covered false p =
      let full : m ≡ (2 ^ k - 1) % 2 ^ k * 2 ^ f = active p ∙ ap (λ n. n * 2 ^ f) (sym (mod-eq_of_lt (ones_lt k))) in
      ap (λ n. n * 2 ^ f) (ap (λ n. n / 2 ^ f % 2 ^ k) full ∙ part_again (2 ^ k - 1) k f) ∙ sym full

-- what holds of lane masks that fit holds of those of beats that are not refused
masks_all : (o : Operation) (f k : ℕ) (P : ℕ → Type 0) → ((m : ℕ) → lane_mask_fits o f k m ≡ true → P m) → (bs : List RequestBeat) → AllByRecursion (λ b. request_beats.own o f k b ≡ Ok tt) bs → AllByRecursion P (map (λ b. b.mask) bs)
masks_all o f k P g [] a = tt
masks_all o f k P g (b ∷ bs) a =
    (g b.mask (passed (lane_mask_fits o f k b.mask) no.Mask a.0), masks_all o f k P g bs a.1)

-- all the beats of a request, and the mask that they bring
module _ (o : Operation) (h : RequestHead) (f k : ℕ) (bs : List RequestBeat) (a : All operation_kinds request_beats o h f k bs) where
  abbrev masks : List ℕ
  masks = map (λ b. b.mask) bs

  abbrev mask : ℕ
  mask = cond (has_data o) (joined_mask f k masks) (whole h.size)

  whole_masks : partial o ≡ false → AllByRecursion (λ m. m ≡ active_lanes f k) masks
  whole_masks p = masks_all o f k (λ m. m ≡ active_lanes f k) (λ m fits. active o f k m fits p) bs a.own

  joined : has_data o ≡ true → mask ≡ joined_mask f k masks
  joined d = cond-true (has_data o) (joined_mask f k masks) (whole h.size) d

  unjoined : has_data o ≡ false → mask ≡ whole h.size
  unjoined d = cond-false (has_data o) (joined_mask f k masks) (whole h.size) d

  -- a bit of the mask for each byte
  bits : has_data o ≡ true → length masks * k ≡ 2 ^ h.size
  bits d = ap (λ n. n * k) (length-map bs (λ b. b.mask)) ∙ a.with_data d

  held : (d : Bool) → has_data o ≡ d → HoldMask f k 0 masks mask
  held true d =
      let start : mask / 2 ^ (0 * k) ≡ joined_mask f k masks = ap (λ n. mask / 2 ^ n) (zero-mul k) ∙ div-one mask ∙ joined d in
      held_mask f k 0 masks mask start (masks_all o f k (λ m. m / 2 ^ f % 2 ^ k * 2 ^ f ≡ m) (λ m fits. covered o f k m fits (partial o) refl) bs a.own)
  held false d =
      let one = a.without d in
      let room : (0 + length masks) * k ≤ 2 ^ h.size = omega (arith, ap (λ n. (0 + n) * k) (length-map bs (λ b. b.mask) ∙ one.0), one-mul k, one.1) in
      subst (HoldMask f k 0 masks) (sym (unjoined d)) (held_whole f k (2 ^ h.size) 0 masks room (whole_masks (whole_without_data o d)))

  below : (d : Bool) → has_data o ≡ d → mask < 2 ^ (2 ^ h.size)
  below true d =
      subst (λ m. m < 2 ^ (2 ^ h.size)) (sym (joined d)) (subst (λ n. joined_mask f k masks < 2 ^ n) (bits d) (mask_below f k masks))
  below false d = subst (λ m. m < 2 ^ (2 ^ h.size)) (sym (unjoined d)) (ones_lt (2 ^ h.size))

  full : (d : Bool) → has_data o ≡ d → partial o ≡ false → mask ≡ whole h.size
  full true d p = joined d ∙ mask_full f k masks (whole_masks p) ∙ ap (λ n. 2 ^ n - 1) (bits d)
  full false d p = unjoined d

  -- they bring a legal request
  legal : (bytes : List ℕ) → placed operation_kinds h.opcode h.param h.size h.address ≡ Ok o → Right operation_kinds o (request_header h) (length bytes) → Legal o (request (with_mask h mask) bytes)
  legal bytes place r =
      legal_from (request (with_mask h mask) bytes) o place (below (has_data o) refl) (full (has_data o) refl) r.long

-- what channel A owes
pub request_owes : Owes operation_kinds request_beats request_messages
request_owes =
    record {
      right = λ o m l. legal_right o (request m.head m.bytes) l;
      place = λ o m l. legal_placed (request m.head m.bytes) o l;
      zeros = λ o m l e. absurd (false≢true e);
      below = λ o m l. legal_below (request m.head m.bytes) o l;
      masked = λ o m l. ap (with_mask m.head) (mask_is o (request m.head m.bytes) l (has_data o) refl);
      granted = λ o m l b e d. unmasked (head_of b 0) m.head 0 e;
      admitted =
          λ o m l b f k j e fits is le. ap (λ t. cond t (Ok tt) (Err no.Mask)) (admitted o (request m.head m.bytes) l f k j b.mask is le (partial o) refl);
      fitting = λ o h b f k own e. tt;
      held = λ o h f k bs a. held o h f k bs a (has_data o) refl;
      legal = λ o b f k bs bytes a place r zeros. legal o (head_of b 0) f k bs a bytes place r;
      cut = λ o h mask lanes. (refl, tt, λ e. absurd (false≢true e));
    }
