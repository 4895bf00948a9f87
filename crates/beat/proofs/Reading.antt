-- Beats on any channel: what is admitted, and what one beat brings.
use Rattle.std.proofs.Common.{◌≡◌, ℕ, ◌+◌, ◌*◌, ◌/◌, ◌%◌, ◌^◌, ◌<◌, ◌≤◌, min, Bool, true, false, cond, not, ◌&&◌, eqb, leb, List, length, get_or, Some, None, Ok, Err, Option, Result, sym, refl, ap, ◌∙◌, subst, arith}
use lib.Lanes.{Each1}
use Rattle.std.proofs.lemmas.Nat.{pow_pos}
use Rattle.std.proofs.lemmas.Simd.{Each1-replicate}
use Rattle.std.proofs.lemmas.Bool.{leb-true, eqb-true, and_parts, cond-true}
use Rattle.std.specs.Prelude.{replicate}
use Rattle.message.specs.declared.refusal.Refusal.{Refusal}
use Rattle.message.specs.declared.refusal.Refusal.TheVariants as no
use Rattle.message.specs.Bits.{bit}
use Rattle.message.specs.Kind.{Kinds, Small, length_of, placed}
use Rattle.message.specs.Refusal.{unless_refused}
use Rattle.message.specs.Request.{whole}
use Rattle.message.proofs.Placed.{accepted_before, accepted_by, placed_parts}
use Rattle.beat.specs.declared.begun.Begun.{Begun}
use Rattle.beat.specs.declared.begun.Begun.TheVariants.{Whole, Half}
use Rattle.beat.specs.declared.header.Header.{Header}
use Rattle.beat.specs.declared.width.Width.{Width}
use Rattle.beat.specs.Begun.{UnlessRefused}
use Rattle.beat.specs.Lanes.{beat_count, beat_bytes, beat_bits, in_lanes, per_beat, lane_byte, Sent, Received}
use Rattle.beat.specs.Channel.{Beats, Laws, Right, Part, agree, same_header, more_mask, lane_of, per, beats_in, sent_bytes, heard, message_beat, LaidOut, same_head, admitted, judged, brings_data, Due, head_after, Stands, Taken, mask_read, LanesRead, First, Began}
use Rattle.beat.specs.Width.{width_bytes, width_of}
use Rattle.beat.proofs.Lays.{bytes_sent, bits_sent, bytes_received, bits_received}
use Rattle.beat.proofs.Masks.{grown}
use Rattle.beat.proofs.Verdicts.{not_refused}
use Rattle.beat.proofs.Widths.{Shape, shape}

pub agreed : (x y : Bool) → agree x y ≡ true → x ≡ y
agreed true true e = refl
agreed false false e = refl
agreed true false e = let z : ◌≡◌ {A = ℕ} 0 1 = cc in absurd (omega arith)
agreed false true e = let z : ◌≡◌ {A = ℕ} 0 1 = cc in absurd (omega arith)

pub agree_self : (x : Bool) → agree x x ≡ true
agree_self true = refl
agree_self false = refl

-- equal in every field
pub same_fields : (a b : Header) → same_header a b ≡ true → a ≡ b
same_fields a b e =
    let o = and_parts (eqb a.opcode b.opcode) (eqb a.param b.param && (eqb a.size b.size && (eqb a.source b.source && (eqb a.address b.address && agree a.denied b.denied)))) e in
    let p = and_parts (eqb a.param b.param) (eqb a.size b.size && (eqb a.source b.source && (eqb a.address b.address && agree a.denied b.denied))) o.1 in
    let z = and_parts (eqb a.size b.size) (eqb a.source b.source && (eqb a.address b.address && agree a.denied b.denied)) p.1 in
    let s = and_parts (eqb a.source b.source) (eqb a.address b.address && agree a.denied b.denied) z.1 in
    let t = and_parts (eqb a.address b.address) (agree a.denied b.denied) s.1 in
    λ i. record {
      opcode = eqb-true a.opcode b.opcode o.0 i;
      param = eqb-true a.param b.param p.0 i;
      size = eqb-true a.size b.size z.0 i;
      source = eqb-true a.source b.source s.0 i;
      address = eqb-true a.address b.address t.0 i;
      denied = agreed a.denied b.denied t.1 i;
    }

module _ {K H B : Type 0} (ks : Kinds K) (ch : Beats K H B) where
  pub data_room : (k : K) (size room : ℕ) → ks.carries k ≡ true → length_of ks k size ≤ room → 2 ^ size ≤ room
  data_room k size room d le = subst (λ n. n ≤ room) (cond-true (ks.carries k) (2 ^ size) 0 d) le

  -- what is known of a beat that is not refused
  pub record Fit (first : Option H) (w : Width) (b : B) (room : ℕ) (k : K) : Type 0 where
    pub place : placed ks (ch.header (ch.start b)).opcode (ch.header (ch.start b)).param (ch.header (ch.start b)).size (ch.header (ch.start b)).address ≡ Ok k
    pub of : ks.of (ch.header (ch.start b)).opcode (ch.header (ch.start b)).param ≡ Ok k
    pub fits : ks.fits k (ch.header (ch.start b)).size ≡ true
    pub aligned : (ch.header (ch.start b)).address % 2 ^ (ch.header (ch.start b)).size ≡ 0
    pub same : same_head ks ch first (ch.header (ch.start b)) ≡ true
    pub own : ch.own k (lane_of ks ch w (ch.start b)) (per ks ch w (ch.start b)) b ≡ Ok tt
    pub roomy : length_of ks k (ch.header (ch.start b)).size ≤ room

  pub fit : (first : Option H) (w : Width) (b : B) (room : ℕ) (k : K) → judged ks ch first w b room ≡ Ok k → Fit first w b room k
  unfolding judged
  fit first w b room k e =
      let h = ch.header (ch.start b) in
      let a = accepted_before (placed ks h.opcode h.param h.size h.address) (λ p. admitted ks ch p first w b room) k e in
      let p = a.0 in
      let own = ch.own p (lane_of ks ch w (ch.start b)) (per ks ch w (ch.start b)) b in
      let last = cond (not (leb (length_of ks p h.size) room)) (Err no.BufferShort) (Ok p) in
      let s = accepted_by (same_head ks ch first h) no.HeadDiffers (unless_refused own (λ fits. last)) k a.2 in
      let m = accepted_before own (λ fits. last) k s.1 in
      let r = accepted_by (leb (length_of ks p h.size) room) no.BufferShort (Ok p) k m.2 in
      let is : p ≡ k = cc in
      let parts = placed_parts ks h.opcode h.param h.size h.address k (a.1 ∙ ap Ok is) in
      record {
        place = a.1 ∙ ap Ok is;
        of = parts.of;
        fits = parts.fits;
        aligned = parts.aligned;
        same = s.0;
        own = ap (λ x. ch.own x (lane_of ks ch w (ch.start b)) (per ks ch w (ch.start b)) b) (sym is) ∙ m.1;
        roomy = subst (λ x. length_of ks x h.size ≤ room) is (leb-true (length_of ks p h.size) room r.0);
      }

  pub carrying : (h : H) (k : K) → ks.of (ch.header h).opcode (ch.header h).param ≡ Ok k → brings_data ks ch h ≡ ks.carries k
  carrying h k e = ap (λ r. elim r [ Ok p ↦ ks.carries p | Err x ↦ false ]) e

  -- the first beat of a message with data is due, if it is placed right
  pub due_placed : Laws ch → (w : Width) (b : B) (k : K) → ks.of (ch.header (ch.start b)).opcode (ch.header (ch.start b)).param ≡ Ok k → (ch.header (ch.start b)).size ≤ 6 → (ch.header (ch.start b)).address % 2 ^ (ch.header (ch.start b)).size ≡ 0 → ks.carries k ≡ true → Due ks ch w (ch.start b) 0
  due_placed laws w b k of size aligned d =
      let h = ch.header (ch.start b) in
      record {
        size = size;
        aligned = aligned;
        carries = carrying (ch.start b) k of ∙ d;
        due = (shape w h.size h.address size aligned).beats;
        low = omega (arith, laws.unmasked b, pow_pos (0 * per ks ch w (ch.start b)));
      }

  -- one that is not refused is, and the buffer has room
  pub due_first : Small ks → Laws ch → (w : Width) (b : B) (room : ℕ) (k : K) → judged ks ch None w b room ≡ Ok k → ks.carries k ≡ true → Due ks ch w (ch.start b) 0
  due_first small laws w b room k e d =
      let f = fit None w b room k e in
      due_placed laws w b k f.of (small k (ch.header (ch.start b)).size f.fits) f.aligned d

  pub first_room : (w : Width) (b : B) (room : ℕ) (k : K) → judged ks ch None w b room ≡ Ok k → ks.carries k ≡ true → 2 ^ (ch.header (ch.start b)).size ≤ room
  first_room w b room k e d =
      data_room k (ch.header (ch.start b)).size room d (fit None w b room k e).roomy

  -- a first beat without data is the whole message
  pub first_whole : {U : Type 0} (at : U → Part H) (k : K) (w : Width) (b : B) (xs : List ℕ) (h : H) (m : ℕ) → ks.carries k ≡ false → (ch.header (ch.start b)).size ≤ 6 → m ≡ whole (min (ch.header (ch.start b)).size 6) → h ≡ ch.with_mask (ch.start b) m → First ks ch at k w b xs (Whole h) xs
  first_whole at k w b xs h m d size em eh =
      rw d (ap Whole (eh ∙ ap (ch.with_mask (ch.start b)) (em ∙ ap whole (omega arith))), refl)

  -- so it is with a later one
  pub later_room : (w : Width) (h : H) (j : ℕ) → Due ks ch w h j → (b : B) (room : ℕ) (k : K) → judged ks ch (Some h) w b room ≡ Ok k → 2 ^ (ch.header h).size ≤ room
  later_room w h j due b room k e =
      let f = fit (Some h) w b room k e in
      let same = same_fields (ch.header h) (ch.header (ch.start b)) f.same in
      let some : ks.carries k ≡ true =
      sym (carrying (ch.start b) k f.of) ∙ sym (ap (λ x. elim (ks.of x.opcode x.param) [ Ok p ↦ ks.carries p | Err y ↦ false ]) same) ∙ due.carries in
      subst (λ x. 2 ^ x.size ≤ room) (sym same) (data_room k (ch.header (ch.start b)).size room some f.roomy)

  -- the next one is due unless that was the last
  pub due_next : Laws ch → (w : Width) (h : H) (j : ℕ) (b : B) → Due ks ch w h j → j + 1 < beats_in ks ch w true h → Due ks ch w (head_after ks ch w h j b) (j + 1)
  due_next laws w h j b d more =
      let n = more_mask (lane_of ks ch w h) (per ks ch w h) (j * per ks ch w h) (ch.lane_mask b) (ch.mask h) in
      let same : ch.header h ≡ ch.header (head_after ks ch w h j b) = sym (laws.header_kept h n) in
      let mask = laws.masked h b (lane_of ks ch w h) (per ks ch w h) (j * per ks ch w h) in
      record {
        size = subst (λ x. x.size ≤ 6) same d.size;
        aligned = subst (λ x. x.address % 2 ^ x.size ≡ 0) same d.aligned;
        carries = subst (λ x. elim (ks.of x.opcode x.param) [ Ok p ↦ ks.carries p | Err y ↦ false ] ≡ true) same d.carries;
        due = subst (λ x. j + 1 < beat_count true (width_bytes w) x.size) same more;
        low =
            subst (λ x. ch.mask (head_after ks ch w h j b) < 2 ^ ((j + 1) * per_beat (width_bytes w) x.size)) same
            (subst (λ m. m < 2 ^ ((j + 1) * per ks ch w h)) (sym mask) (grown (ch.lane_mask b / 2 ^ lane_of ks ch w h) (per ks ch w h) (per ks ch w h) j (ch.mask h) n refl d.low refl));
      }

  mask_stands : {U : Type 0} (at : U → Part H) (w : Width) (h : H) (j : ℕ) (b : B) (g : Begun H U) → Stands ks ch at w h j b g → mask_read ks ch at g ≡ ch.mask (head_after ks ch w h j b)
  mask_stands at w h j b (Whole g) s = ap ch.mask s.1
  mask_stands at w h j b (Half u) s = ap (λ p. ch.mask p.head) s.1

  -- the lanes of a beat that is taken in
  pub lanes_read : Laws ch → {U : Type 0} (at : U → Part H) (w : Width) (h : H) (j : ℕ) (b : B) (xs : List ℕ) (g : Begun H U) (ys : List ℕ) → Due ks ch w h j → 2 ^ (ch.header h).size ≤ length xs → Taken ks ch at w h j b xs g ys → LanesRead ks ch at (width_bytes w) h j b xs g ys
  lanes_read laws at w h j b xs g ys d room t =
      let q = ch.header h in
      let n = width_bytes w in
      let s = shape w q.size q.address d.size d.aligned in
      let mask = mask_stands at w h j b g t.stands ∙ laws.masked h b (lane_of ks ch w h) (per ks ch w h) (j * per ks ch w h) in
      record {
        bytes = subst (λ zs. Received n q.address q.size j (lane_byte (heard ks ch b)) (λ i. get_or xs i 0) (λ i. get_or zs i 0)) (sym t.buffer) (bytes_received n q.size q.address s j d.due (heard ks ch b) xs room);
        bits = subst (λ m. Received n q.address q.size j (bit (ch.lane_mask b)) (bit (ch.mask h)) (bit m)) (sym mask) (bits_received n q.size q.address s j d.due (ch.lane_mask b) (ch.mask h) d.low);
      }

  -- the reader's answer where nothing is refused
  pub began_with : {U : Type 0} (at : U → Part H) (n : ℕ) (w : Width) (b : B) (k : K) (xs : List ℕ) (g : Begun H U) (ys : List ℕ) → width_of n ≡ Ok w → judged ks ch None w b (length xs) ≡ Ok k → First ks ch at k w b xs g ys → Began ks ch at n b xs (Ok g) ys
  began_with {U} at n w b k xs g ys wide fits f =
      let r : Result (Begun H U) Refusal = Ok g in
      not_refused (λ e. e) (width_of n) w r xs ys (λ v. UnlessRefused (λ e. e) (judged ks ch None v b (length xs)) r xs ys (λ p. First ks ch at p v b xs g ys)) wide
      (not_refused (λ e. e) (judged ks ch None w b (length xs)) k r xs ys (λ p. First ks ch at p w b xs g ys) fits f)

  sent_small : (d : Bool) (xs : List ℕ) → Each1 (λ x. x < 256) xs → Each1 (λ x. x < 256) (cond d (replicate (length xs) 0) xs)
  sent_small true xs h = Each1-replicate (λ x. x < 256) (length xs) 0 (omega arith)
  sent_small false xs h = h

  some_long : (t : Bool) (n m : ℕ) → n ≡ cond t m 0 → (n ≡ 0 → ⊥) → n ≡ m
  some_long true n m e some = e
  some_long false n m e some = absurd (some e)

  -- data of an accepted message, where there are any
  pub all_data : (k : K) (h : Header) (n : ℕ) → Right ks k h n → (n ≡ 0 → ⊥) → n ≡ 2 ^ h.size
  all_data k h n r some = some_long (ks.carries k) n (2 ^ h.size) r.long some

  -- the lanes of a beat that is cut
  pub laid_out : Laws ch → (n : ℕ) (w : Width) (k : K) (h : H) (bytes : List ℕ) (j : ℕ) (b : B) → n ≡ width_bytes w → Shape (width_bytes w) (ch.header h).size (ch.header h).address → j < beats_in ks ch w true h → Each1 (λ x. x < 256) bytes → b ≡ message_beat ks ch w k h bytes j → LaidOut ks ch n h bytes j (Ok (Some b))
  laid_out laws n w k h bytes j b is s lt small e =
      let q = ch.header h in
      let v = width_bytes w in
      let mask = beat_bits (per ks ch w h) j (ch.mask h) * 2 ^ lane_of ks ch w h in
      let lanes = in_lanes (lane_of ks ch w h) (beat_bytes (per ks ch w h) j (sent_bytes ks ch h bytes)) in
      let bits : ch.lane_mask b ≡ mask = ap ch.lane_mask e ∙ laws.cut_mask k h (lane_of ks ch w h) (per ks ch w h) j lanes in
      let filled : ch.lanes b ≡ lanes = ap ch.lanes e ∙ laws.cut_lanes k h mask lanes in
      subst (λ m. LaidOut ks ch m h bytes j (Ok (Some b))) (sym is) (
        subst (λ m. Sent v q.address q.size j (bit (ch.mask h)) (bit m)) (sym bits) (bits_sent v q.size q.address s j lt (ch.mask h)),
        subst (λ m. Sent v q.address q.size j (λ i. get_or (sent_bytes ks ch h bytes) i 0) (lane_byte m)) (sym filled) (bytes_sent v q.size q.address s j lt (sent_bytes ks ch h bytes) (sent_small q.denied bytes small)),
      )
