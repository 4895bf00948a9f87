-- Beats that are read are those of the legal message that they bring, and those of a legal message are read.
use Rattle.std.proofs.Common.{◌≡◌, ℕ, zero, suc, ◌+◌, ◌*◌, ◌/◌, ◌%◌, ◌^◌, ◌<◌, ◌≤◌, Bool, true, false, cond, leb, List, [], ◌∷◌, ◌++◌, map, length, take, drop, replicate, Some, None, Ok, sym, refl, ap, ◌∙◌, subst, add-mul, zero-add, one-mul, zero-mul, div-one, mod-eq_of_lt, arith}
use Rattle.std.specs.Simd.Lanes.{Each1, digits_l}
use Rattle.std.specs.List.{AllByRecursion}
use Rattle.std.proofs.ByRecursion.{All-weaker}
use Rattle.std.proofs.Math.Nat.{zero-div}
use Rattle.std.proofs.lemmas.Bool.{le-leb, cond-true, cond-false}
use Rattle.std.proofs.lemmas.Simd.{Each1-chunk, length-chunk}
use Rattle.std.proofs.lemmas.List.{take_all, replicate-append-replicate, nil_from_length, length-map}
use Rattle.message.specs.Kind.{Kinds, Small, length_of, placed}
use Rattle.message.specs.Request.{whole}
use Rattle.beat.specs.declared.width.Width.{Width}
use Rattle.beat.specs.Channel.{Beats, Laws, Right, lane_of, per, beats_in, heard, sent_bytes, judged, same_head, same_header}
use Rattle.beat.specs.Lanes.{per_beat, first_lane, beat_count, beat_bytes, beat_bits, lane_bytes, in_lanes}
use Rattle.beat.specs.Width.{width_bytes}
use Rattle.beat.proofs.Digits.{unpack_pack}
use Rattle.beat.proofs.Reading.{Fit, fit, same_fields}
use Rattle.beat.proofs.Widths.{Shape, shape}
use Rattle.wire.specs.Beats.{payload, joined_mask, HoldBytes, HoldMask}
use Rattle.wire.specs.Payloads.{one_more, payload_length, brought, held}
use Rattle.wire.specs.Bits.{brought_mask}
use Rattle.wire.specs.Rules.{Read, Source, Accepted, cut_from, cut_beats}
use Rattle.wire.specs.Messages.{Message, message, Messages, Leads, due, bytes_of, mask_of, head_of, Carries, All, Owes, rules_of}
use Rattle.wire.specs.Progress.{same_self, self_judged}

-- empty lanes bring zeros
zero_digits : (n : ℕ) → digits_l 256 n 0 ≡ replicate n 0
zero_digits zero = refl
zero_digits (suc n) = ap (λ l. 0 ∷ l) (zero_digits n)

zero_bytes : (f n : ℕ) → lane_bytes f n 0 ≡ replicate n 0
zero_bytes f n = ap (digits_l 256 n) (zero-div (2 ^ (8 * f))) ∙ zero_digits n

zero_payload : (f n : ℕ) (ls : List ℕ) → AllByRecursion (λ l. l ≡ 0) ls → payload f n ls ≡ replicate (length ls * n) 0
zero_payload f n [] h = ap (λ m. replicate m 0) (sym (zero-mul n))
zero_payload f n (l ∷ ls) h =
    (λ i. (ap (lane_bytes f n) h.0 ∙ zero_bytes f n) i ++ zero_payload f n ls h.1 i)
    ∙ replicate-append-replicate n (length ls * n) 0
    ∙ ap (λ m. replicate m 0) (sym (one_more (length ls) n))

-- what holds of the first of a list
lead_weaker : {B : Type 0} (P Q : B → Type 0) → ((b : B) → P b → Q b) → (bs : List B) → Leads P bs → Leads Q bs
lead_weaker P Q g [] h = tt
lead_weaker P Q g (b ∷ bs) h = g b h

module _ {K H B : Type 0} (ks : Kinds K) (ch : Beats K H B) where
  -- what the lanes of denied beats are, and of others
  heard_zeros : (h : H) (bs : List B) → (ch.header h).denied ≡ true → AllByRecursion (λ b. ch.header (ch.start b) ≡ ch.header h) bs → AllByRecursion (λ l. l ≡ 0) (map (heard ks ch) bs)
  heard_zeros h [] d a = tt
  heard_zeros h (c ∷ bs) d a =
      (cond-true (ch.header (ch.start c)).denied 0 (ch.lanes c) (ap (λ x. x.denied) a.0 ∙ d), heard_zeros h bs d a.1)

  heard_lanes : (h : H) (bs : List B) → (ch.header h).denied ≡ false → AllByRecursion (λ b. ch.header (ch.start b) ≡ ch.header h) bs → map (heard ks ch) bs ≡ map ch.lanes bs
  heard_lanes h [] d a = refl
  heard_lanes h (c ∷ bs) d a =
      λ i. cond-false (ch.header (ch.start c)).denied 0 (ch.lanes c) (ap (λ x. x.denied) a.0 ∙ d) i ∷ heard_lanes h bs d a.1 i

  some_beats : (w : Width) (h : H) (d : Bool) → Shape (width_bytes w) (ch.header h).size (ch.header h).address → 0 < beats_in ks ch w d h
  some_beats w h true s = s.beats
  some_beats w h false s = omega arith

  -- a first beat that is not refused is the first of at least one
  pub some_due : Small ks → (w : Width) (k : K) (b : B) (room : ℕ) → judged ks ch None w b room ≡ Ok k → 0 < due ks ch w k (ch.start b)
  some_due small w k b room j =
      let f = fit ks ch None w b room k j in
      let h = ch.header (ch.start b) in
      some_beats w (ch.start b) (ks.carries k) (shape w h.size h.address (small k h.size f.fits) f.aligned)

  -- the header of a later beat, and the judgement that only its channel makes of it
  pub one_fits : (w : Width) (k : K) (b c : B) (room : ℕ) → judged ks ch (Some (ch.start b)) w c room ≡ Ok k → (ch.header (ch.start c) ≡ ch.header (ch.start b)) × (ch.own k (lane_of ks ch w (ch.start b)) (per ks ch w (ch.start b)) c ≡ Ok tt)
  one_fits w k b c room j =
      let f = fit ks ch (Some (ch.start b)) w c room k j in
      let same = sym (same_fields (ch.header (ch.start b)) (ch.header (ch.start c)) f.same) in
      (same, sym (λ i. ch.own k (first_lane (width_bytes w) (same i).address) (per_beat (width_bytes w) (same i).size) c) ∙ f.own)

  -- beats that are read are those of the message that they bring, which is legal, whether b is one of them or not
  module _ (small : Small ks) (laws : Laws ch) (ms : Messages K H B) (owes : Owes ks ch ms) (w : Width) (k : K) (b : B) (bs : List B) (xs ys : List ℕ) (r : Read (rules_of ks ch ms) w k b bs xs ys) (all : length bs ≡ due ks ch w k (ch.start b)) where
    abbrev s : H
    s = ch.start b

    first : Fit ks ch None w b (length xs) k
    first = fit ks ch None w b (length xs) k r.begun

    size : (ch.header s).size ≤ 6
    size = small k (ch.header s).size first.fits

    lies : Shape (width_bytes w) (ch.header s).size (ch.header s).address
    lies = shape w (ch.header s).size (ch.header s).address size first.aligned

    abbrev brings : Message H
    brings = message (head_of ks ch w k s bs) (bytes_of ks ch w k s bs)

    header_is : ch.header brings.head ≡ ch.header s
    header_is = laws.header_kept s _

    heads_all : AllByRecursion (λ c. ch.header (ch.start c) ≡ ch.header s) bs
    heads_all = All-weaker (λ c. judged ks ch (Some s) w c (length xs) ≡ Ok k) (λ c. ch.header (ch.start c) ≡ ch.header s) (λ c j. (one_fits w k b c (length xs) j).0) bs r.accepted

    whole_beats : (d : Bool) → ks.carries k ≡ d → d ≡ true → length bs * per ks ch w s ≡ 2 ^ (ch.header s).size
    whole_beats d e t = ap (λ n. n * per ks ch w s) (all ∙ ap (λ x. beats_in ks ch w x s) (e ∙ t)) ∙ lies.whole

    own_all : All ks ch k s (lane_of ks ch w s) (per ks ch w s) bs
    own_all =
        record {
          own = All-weaker (λ c. judged ks ch (Some s) w c (length xs) ≡ Ok k) (λ c. ch.own k (lane_of ks ch w s) (per ks ch w s) c ≡ Ok tt) (λ c j. (one_fits w k b c (length xs) j).1) bs r.accepted;
          with_data = λ d. whole_beats true d refl;
          without = λ d. (all ∙ ap (λ x. beats_in ks ch w x s) d, omega arith);
        }

    long_if : (d : Bool) → ks.carries k ≡ d → length (bytes_of ks ch w k s bs) ≡ cond d (2 ^ (ch.header s).size) 0
    long_if true d =
        ap length (cond-true (ks.carries k) _ [] d) ∙ payload_length (lane_of ks ch w s) (per ks ch w s) (map (heard ks ch) bs) ∙ ap (λ n. n * per ks ch w s) (length-map bs (heard ks ch)) ∙ whole_beats true d refl
    long_if false d = ap length (cond-false (ks.carries k) _ [] d)

    right : Right ks k (ch.header s) (length (bytes_of ks ch w k s bs))
    right = record { size = size; aligned = first.aligned; long = long_if (ks.carries k) refl }

    zeros_if : (d : Bool) → ks.carries k ≡ d → (ch.header s).denied ≡ true → bytes_of ks ch w k s bs ≡ replicate (length (bytes_of ks ch w k s bs)) 0
    zeros_if true d denied =
        let f = lane_of ks ch w s in
        let n = per ks ch w s in
        let ls = map (heard ks ch) bs in
        let is : bytes_of ks ch w k s bs ≡ payload f n ls = cond-true (ks.carries k) _ [] d in
        is ∙ zero_payload f n ls (heard_zeros s bs denied heads_all) ∙ ap (λ m. replicate m 0) (sym (ap length is ∙ payload_length f n ls))
    zeros_if false d denied =
        let is : bytes_of ks ch w k s bs ≡ [] = cond-false (ks.carries k) _ [] d in
        is ∙ ap (λ m. replicate m 0) {x = 0} (sym (ap length is))

    pub brings_legal : ms.Legal k brings
    brings_legal = owes.legal k b (lane_of ks ch w s) (per ks ch w s) bs (bytes_of ks ch w k s bs) own_all first.place right (zeros_if (ks.carries k) refl)

    -- a denied message's first beat tells its denial
    pub brings_carried : ((ch.header s).denied ≡ true → Leads (λ c. ch.start c ≡ s) bs) → Carries ks ch ms w k brings bs
    brings_carried lead =
        let back = sym header_is in
        let f = lane_of ks ch w s in
        let n = per ks ch w s in
        record {
          count = all ∙ ap (λ x. beat_count (ks.carries k) (width_bytes w) x.size) back;
          heads = subst (λ x. AllByRecursion (λ c. ch.header (ch.start c) ≡ x) bs) back heads_all;
          fits = All-weaker (λ c. judged ks ch (Some s) w c (length xs) ≡ Ok k) (ms.Fits k brings.head) (λ c j. owes.fitting k brings.head c f n (one_fits w k b c (length xs) j).1 ((one_fits w k b c (length xs) j).0 ∙ back)) bs r.accepted;
          first = λ d. lead_weaker (λ c. ch.start c ≡ s) (λ c. ch.start c ≡ ch.with_mask brings.head 0) (λ c e. e ∙ sym (laws.again s _ 0 ∙ laws.unset b)) bs (lead (ap (λ x. x.denied) back ∙ d));
          masks =
              subst (λ x. HoldMask (first_lane (width_bytes w) x.address) (per_beat (width_bytes w) x.size) 0 (map ch.lane_mask bs) (ch.mask brings.head)) back
              (owes.held k s f n bs own_all);
          bytes = λ d granted.
              let plain = ap (λ x. x.denied) back ∙ granted in
              subst (λ x. HoldBytes (first_lane (width_bytes w) x.address) (per_beat (width_bytes w) x.size) 0 (map ch.lanes bs) brings.bytes) back
              (held f n 0 (map ch.lanes bs) brings.bytes
              (ap (λ m. drop m brings.bytes) (zero-mul n) ∙ cond-true (ks.carries k) _ [] d ∙ ap (payload f n) (heard_lanes s bs plain heads_all)));
        }

  -- what beats bring, of which none is refused and none is missing, is a legal message; of a denied one the first tells the denial
  pub sound_of : Small ks → Laws ch → (ms : Messages K H B) → Owes ks ch ms → (w : Width) (k : K) (b : B) (bs : List B) (xs ys : List ℕ) → ((ch.header (ch.start b)).denied ≡ true → Leads (λ c. ch.start c ≡ ch.start b) bs) → Read (rules_of ks ch ms) w k b bs xs ys → length bs ≡ due ks ch w k (ch.start b) → Source (rules_of ks ch ms) w k b bs
  sound_of small laws ms owes w k b bs xs ys lead r all =
      let carried = brings_carried small laws ms owes w k b bs xs ys r all lead in
      record {
        message = message (head_of ks ch w k (ch.start b) bs) (bytes_of ks ch w k (ch.start b) bs);
        legal = brings_legal small laws ms owes w k b bs xs ys r all;
        carries = carried;
        count_is = sym all ∙ carried.count;
        head_is = refl;
        bytes_are = refl;
      }

  -- so it is if b is the first of them
  pub sound : Small ks → Laws ch → (ms : Messages K H B) → Owes ks ch ms → (w : Width) (k : K) (b : B) (bs : List B) (xs ys : List ℕ) → Read (rules_of ks ch ms) w k b (b ∷ bs) xs ys → length (b ∷ bs) ≡ due ks ch w k (ch.start b) → Source (rules_of ks ch ms) w k b (b ∷ bs)
  sound small laws ms owes w k b bs xs ys r all = sound_of small laws ms owes w k b (b ∷ bs) xs ys (λ d. refl) r all

  -- the beats of a legal message are not refused, and bring it
  module _ (laws : Laws ch) (ms : Messages K H B) (owes : Owes ks ch ms) (w : Width) (k : K) (m : Message H) (l : ms.Legal k m) where
    right_there : Right ks k (ch.header m.head) (length m.bytes)
    right_there = owes.right k m l

    lies_there : Shape (width_bytes w) (ch.header m.head).size (ch.header m.head).address
    lies_there = shape w (ch.header m.head).size (ch.header m.head).address right_there.size right_there.aligned

    admitted_one : (room : ℕ) → length m.bytes ≤ room → (b c : B) (j : ℕ) → ch.header (ch.start b) ≡ ch.header m.head → ch.header (ch.start c) ≡ ch.header m.head → ms.Fits k m.head c → ch.lane_mask c ≡ beat_bits (per ks ch w m.head) j (ch.mask m.head) * 2 ^ lane_of ks ch w m.head → (j + 1) * per ks ch w m.head ≤ 2 ^ (ch.header m.head).size → judged ks ch (Some (ch.start b)) w c room ≡ Ok k
    unfolding judged
    admitted_one room roomy b c j eb ec fits mask le =
        let h = ch.header (ch.start c) in
        let place : placed ks h.opcode h.param h.size h.address ≡ Ok k = (λ i. placed ks (ec i).opcode (ec i).param (ec i).size (ec i).address) ∙ owes.place k m l in
        let follows : same_head ks ch (Some (ch.start b)) h ≡ true = ap (λ x. same_header x h) (eb ∙ sym ec) ∙ same_self h in
        let own : ch.own k (lane_of ks ch w (ch.start c)) (per ks ch w (ch.start c)) c ≡ Ok tt =
        (λ i. ch.own k (first_lane (width_bytes w) (ec i).address) (per_beat (width_bytes w) (ec i).size) c) ∙ owes.admitted k m l c (lane_of ks ch w m.head) (per ks ch w m.head) j ec fits mask le in
        let rooms : leb (length_of ks k h.size) room ≡ true = le-leb (length_of ks k h.size) room (omega (arith, right_there.long, ap (λ x. length_of ks k x.size) ec)) in
        rw (place, follows, own, rooms)

    pub admitted_all : (room : ℕ) → length m.bytes ≤ room → (b : B) (cs : List B) (j : ℕ) → ch.header (ch.start b) ≡ ch.header m.head → AllByRecursion (λ c. ch.header (ch.start c) ≡ ch.header m.head) cs → AllByRecursion (ms.Fits k m.head) cs → HoldMask (lane_of ks ch w m.head) (per ks ch w m.head) j (map ch.lane_mask cs) (ch.mask m.head) → (j + length cs) * per ks ch w m.head ≤ 2 ^ (ch.header m.head).size → AllByRecursion (λ c. judged ks ch (Some (ch.start b)) w c room ≡ Ok k) cs
    admitted_all room roomy b [] j eb heads fits masks le = tt
    admitted_all room roomy b (c ∷ cs) j eb heads fits masks le =
        let n = per ks ch w m.head in
        let next : j + suc (length cs) ≡ j + 1 + length cs = omega arith in
        let all : (j + 1 + length cs) * n ≤ 2 ^ (ch.header m.head).size = subst (λ i. i * n ≤ 2 ^ (ch.header m.head).size) next le in
        let here : (j + 1) * n ≤ 2 ^ (ch.header m.head).size = omega (arith, all, add-mul (j + 1) (length cs) n) in
        (admitted_one room roomy b c j eb heads.0 fits.0 masks.0 here, admitted_all room roomy b cs (j + 1) eb heads.1 fits.1 masks.1 all)

    carried_whole : (cs : List B) → ks.carries k ≡ true → Carries ks ch ms w k m cs → length cs * per ks ch w m.head ≡ 2 ^ (ch.header m.head).size
    carried_whole cs d c =
        ap (λ n. n * per ks ch w m.head) (c.count ∙ ap (λ t. beats_in ks ch w t m.head) d) ∙ lies_there.whole

    carried_room : (cs : List B) (d : Bool) → ks.carries k ≡ d → Carries ks ch ms w k m cs → (0 + length cs) * per ks ch w m.head ≤ 2 ^ (ch.header m.head).size
    carried_room cs true d c =
        omega (arith, carried_whole cs d c, ap (λ n. n * per ks ch w m.head) (zero-add (length cs)))
    carried_room cs false d c =
        let one : 0 + length cs ≡ 1 = zero-add (length cs) ∙ c.count ∙ ap (λ t. beats_in ks ch w t m.head) d in
        omega (arith, ap (λ n. n * per ks ch w m.head) one, one-mul (per ks ch w m.head))

    start_is : (b : B) (cs : List B) → Carries ks ch ms w k m (b ∷ cs) → (d : Bool) → (ch.header m.head).denied ≡ d → ch.start b ≡ ch.with_mask m.head 0
    start_is b cs c true d = c.first d
    start_is b cs c false d = owes.granted k m l b c.heads.0 d

    mask_brought : (b : B) (cs : List B) → Carries ks ch ms w k m (b ∷ cs) → (d : Bool) → ks.carries k ≡ d → cond d (mask_of ks ch w (ch.start b) (b ∷ cs)) (whole (ch.header (ch.start b)).size) ≡ cond d (ch.mask m.head) (whole (ch.header m.head).size)
    mask_brought b cs c true d =
        let f = lane_of ks ch w m.head in
        let n = per ks ch w m.head in
        let masks = map ch.lane_mask (b ∷ cs) in
        let all : length masks * n ≡ 2 ^ (ch.header m.head).size = ap (λ x. x * n) (length-map (b ∷ cs) ch.lane_mask) ∙ carried_whole (b ∷ cs) d c in
        (λ i. joined_mask (first_lane (width_bytes w) (c.heads.0 i).address) (per_beat (width_bytes w) (c.heads.0 i).size) masks)
        ∙ brought_mask f n 0 masks (ch.mask m.head) c.masks
        ∙ (λ i. ch.mask m.head / 2 ^ zero-mul n i % 2 ^ all i)
        ∙ ap (λ x. x % 2 ^ (2 ^ (ch.header m.head).size)) (div-one (ch.mask m.head))
        ∙ mod-eq_of_lt (owes.below k m l)
    mask_brought b cs c false d = ap (λ x. whole x.size) c.heads.0

    head_brought : (b : B) (cs : List B) → Carries ks ch ms w k m (b ∷ cs) → head_of ks ch w k (ch.start b) (b ∷ cs) ≡ m.head
    head_brought b cs c =
        let mask = cond (ks.carries k) (ch.mask m.head) (whole (ch.header m.head).size) in
        ap (ch.with_mask (ch.start b)) (mask_brought b cs c (ks.carries k) refl)
        ∙ ap (λ h. ch.with_mask h mask) (start_is b cs c (ch.header m.head).denied refl)
        ∙ laws.again m.head 0 mask
        ∙ owes.masked k m l

    long_there : ks.carries k ≡ true → length m.bytes ≡ 2 ^ (ch.header m.head).size
    long_there d = right_there.long ∙ cond-true (ks.carries k) (2 ^ (ch.header m.head).size) 0 d

    bytes_there : (cs : List B) (t : Bool) → ks.carries k ≡ true → (ch.header m.head).denied ≡ t → Carries ks ch ms w k m cs → payload (lane_of ks ch w m.head) (per ks ch w m.head) (map (heard ks ch) cs) ≡ m.bytes
    bytes_there cs true d denied c =
        let all = ap (λ n. n * per ks ch w m.head) (length-map cs (heard ks ch)) ∙ carried_whole cs d c in
        zero_payload (lane_of ks ch w m.head) (per ks ch w m.head) (map (heard ks ch) cs) (heard_zeros m.head cs denied c.heads)
        ∙ ap (λ n. replicate n 0) (all ∙ sym (long_there d))
        ∙ sym (owes.zeros k m l denied)
    bytes_there cs false d granted c =
        let f = lane_of ks ch w m.head in
        let n = per ks ch w m.head in
        let ls = map ch.lanes cs in
        let all : length ls * n ≡ 2 ^ (ch.header m.head).size = ap (λ x. x * n) (length-map cs ch.lanes) ∙ carried_whole cs d c in
        ap (payload f n) (heard_lanes m.head cs granted c.heads)
        ∙ brought f n 0 ls m.bytes (c.bytes d granted)
        ∙ (λ i. take (all i) (drop (zero-mul n i) m.bytes))
        ∙ take_all (2 ^ (ch.header m.head).size) m.bytes (omega (arith, long_there d))

    bytes_brought : (b : B) (cs : List B) (d : Bool) → ks.carries k ≡ d → Carries ks ch ms w k m (b ∷ cs) → bytes_of ks ch w k (ch.start b) (b ∷ cs) ≡ m.bytes
    bytes_brought b cs true d c =
        cond-true (ks.carries k) _ [] d
        ∙ (λ i. payload (first_lane (width_bytes w) (c.heads.0 i).address) (per_beat (width_bytes w) (c.heads.0 i).size) (map (heard ks ch) (b ∷ cs)))
        ∙ bytes_there (b ∷ cs) (ch.header m.head).denied d refl c
    bytes_brought b cs false d c =
        cond-false (ks.carries k) _ [] d ∙ sym (nil_from_length m.bytes (right_there.long ∙ cond-false (ks.carries k) (2 ^ (ch.header m.head).size) 0 d))

    pub complete : (room : ℕ) → length m.bytes ≤ room → (b : B) (bs : List B) → Carries ks ch ms w k m (b ∷ bs) → Accepted (rules_of ks ch ms) w k m room b (b ∷ bs)
    complete room roomy b bs c =
        let all = admitted_all room roomy b (b ∷ bs) 0 c.heads.0 c.heads c.fits c.masks (carried_room (b ∷ bs) (ks.carries k) refl c) in
        record {
          begun = sym (self_judged ks ch w b room) ∙ all.0;
          accepted = all;
          count_is = ap (λ x. beat_count (ks.carries k) (width_bytes w) x.size) c.heads.0;
          head_is = head_brought b bs c;
          bytes_are = bytes_brought b bs (ks.carries k) refl c;
        }

    -- it has as many beats as it should, and at least one
    pub counted : (bs : List B) → Carries ks ch ms w k m bs → (length bs ≡ due ks ch w k m.head) × (0 < due ks ch w k m.head)
    counted bs c = (c.count, some_beats w m.head (ks.carries k) lies_there)

    -- the cutter's beats are its own
    cut_length : (j n : ℕ) → length (cut_from (rules_of ks ch ms) w k m j n) ≡ n
    cut_length j zero = refl
    cut_length j (suc n) = ap suc (cut_length (j + 1) n)

    cut_heads : (j n : ℕ) → AllByRecursion (λ b. ch.header (ch.start b) ≡ ch.header m.head) (cut_from (rules_of ks ch ms) w k m j n)
    cut_heads j zero = tt
    cut_heads j (suc n) = ((owes.cut k m.head _ _).0, cut_heads (j + 1) n)

    cut_fits : (j n : ℕ) → AllByRecursion (ms.Fits k m.head) (cut_from (rules_of ks ch ms) w k m j n)
    cut_fits j zero = tt
    cut_fits j (suc n) = ((owes.cut k m.head _ _).1, cut_fits (j + 1) n)

    cut_first : (j n : ℕ) → (ch.header m.head).denied ≡ true → Leads (λ b. ch.start b ≡ ch.with_mask m.head 0) (cut_from (rules_of ks ch ms) w k m j n)
    cut_first j zero d = tt
    cut_first j (suc n) d = (owes.cut k m.head _ _).2 d

    cut_masks : (j n : ℕ) → HoldMask (lane_of ks ch w m.head) (per ks ch w m.head) j (map ch.lane_mask (cut_from (rules_of ks ch ms) w k m j n)) (ch.mask m.head)
    cut_masks j zero = tt
    cut_masks j (suc n) =
        (laws.cut_mask k m.head (lane_of ks ch w m.head) (per ks ch w m.head) j _, cut_masks (j + 1) n)

    cut_bytes : (j n : ℕ) → Each1 (λ x. x < 256) m.bytes → (ch.header m.head).denied ≡ false → (j + n) * per ks ch w m.head ≤ length m.bytes → HoldBytes (lane_of ks ch w m.head) (per ks ch w m.head) j (map ch.lanes (cut_from (rules_of ks ch ms) w k m j n)) m.bytes
    cut_bytes j zero small granted le = tt
    cut_bytes j (suc n) small granted le =
        let f = lane_of ks ch w m.head in
        let c = per ks ch w m.head in
        let sent : sent_bytes ks ch m.head m.bytes ≡ m.bytes = cond-false (ch.header m.head).denied (replicate (length m.bytes) 0) m.bytes granted in
        let next : j + suc n ≡ j + 1 + n = omega arith in
        let all : (j + 1 + n) * c ≤ length m.bytes = subst (λ i. i * c ≤ length m.bytes) next le in
        let here : j * c + c ≤ length m.bytes = omega (arith, all, add-mul (j + 1) n c, add-mul j 1 c, one-mul c) in (
          ap (lane_bytes f c) (laws.cut_lanes k m.head _ (in_lanes f (beat_bytes c j (sent_bytes ks ch m.head m.bytes))))
              ∙ ap (λ ys. lane_bytes f c (in_lanes f (beat_bytes c j ys))) sent
              ∙ unpack_pack (beat_bytes c j m.bytes) f c (sym (length-chunk (j * c) c m.bytes here)) (Each1-chunk (λ x. x < 256) (j * c) c m.bytes small),
          cut_bytes (j + 1) n small granted all,
        )

    pub cut_carries : Each1 (λ x. x < 256) m.bytes → Carries ks ch ms w k m (cut_beats (rules_of ks ch ms) w k m)
    cut_carries small =
        let n = due ks ch w k m.head in
        let c = per ks ch w m.head in
        record {
          count = cut_length 0 n;
          heads = cut_heads 0 n;
          fits = cut_fits 0 n;
          first = cut_first 0 n;
          masks = cut_masks 0 n;
          bytes = λ d granted.
              let all : (0 + n) * c ≡ 2 ^ (ch.header m.head).size = ap (λ x. x * c) (zero-add n ∙ ap (λ t. beats_in ks ch w t m.head) d) ∙ lies_there.whole in
              cut_bytes 0 n small granted (omega (arith, all, long_there d));
        }
