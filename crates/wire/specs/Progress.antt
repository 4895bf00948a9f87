-- Messages read beat by beat, on any channel.
use Rattle.std.proofs.Common.{◌≡◌, ℕ, ◌*◌, ◌<◌, Bool, true, false, ◌&&◌, List, [], ◌∷◌, ◌++◌, map, length, drop, Some, None, Ok, Err, Result, sym, refl, ap, ◌∙◌, subst, arith}
use Rattle.std.proofs.ByRecursion.{All-push}
use Rattle.std.proofs.lemmas.List.{append-nil, append_assoc, length_push, map_push, length-map}
use Rattle.std.proofs.lemmas.Bool.{eq-eqb, cond-true, cond-false}
use Rattle.message.specs.declared.refusal.Refusal.{Refusal}
use Rattle.message.specs.Kind.{Kinds}
use Rattle.message.specs.Request.{whole}
use Rattle.beat.specs.declared.begun.Begun.{Begun}
use Rattle.beat.specs.declared.begun.Begun.TheVariants.{Whole, Half}
use Rattle.beat.specs.declared.header.Header.{Header}
use Rattle.beat.specs.declared.width.Width.{Width}
use Rattle.beat.specs.Begun.{UnlessRefused}
use Rattle.beat.specs.Channel.{Beats, Laws, Part, part, same_header, lane_of, per, beats_in, heard, judged, head_after, more_mask, buffer_with, Taken, First, Began, Went}
use Rattle.beat.specs.Lanes.{put, beat_count, per_beat, first_lane}
use Rattle.beat.specs.Width.{width_bytes, width_of}
use Rattle.beat.proofs.Reading.{agree_self, fit, same_fields}
use Rattle.beat.proofs.Verdicts.{not_refused, carried_on, stopped}
use Rattle.wire.specs.Beats.{payload, joined_mask}
use Rattle.wire.specs.Payloads.{put_payload}
use Rattle.wire.specs.Bits.{mask_push}
use Rattle.wire.specs.Rules.{Read}
use Rattle.wire.specs.Messages.{Messages, due, bytes_of, mask_of, head_of, rules_of, HalfRead}
use Rattle.wire.specs.Joins.{Reached, Begins, Continues}

pub same_self : (h : Header) → same_header h h ≡ true
same_self h =
    λ i. eq-eqb h.opcode h.opcode refl i && (eq-eqb h.param h.param refl i && (eq-eqb h.size h.size refl i && (eq-eqb h.source h.source refl i && (eq-eqb h.address h.address refl i && agree_self h.denied i))))

module _ {K H B : Type 0} (ks : Kinds K) (ch : Beats K H B) where
  -- a later beat is compared with the header of the first alone
  pub judged_by : (g h : H) → ch.header g ≡ ch.header h → (w : Width) (c : B) (room : ℕ) → judged ks ch (Some g) w c room ≡ judged ks ch (Some h) w c room
  unfolding judged
  judged_by g h e w c room = rw e

  -- a first beat has its own head
  pub self_judged : (w : Width) (b : B) (room : ℕ) → judged ks ch (Some (ch.start b)) w b room ≡ judged ks ch None w b room
  unfolding judged
  self_judged w b room = rw (same_self (ch.header (ch.start b)))

  -- every beat of a message is of the same kind
  pub same_kind : (w : Width) (b c : B) (room : ℕ) (k p : K) → ks.of (ch.header (ch.start b)).opcode (ch.header (ch.start b)).param ≡ Ok k → judged ks ch (Some (ch.start b)) w c room ≡ Ok p → p ≡ k
  same_kind w b c room k p e j =
      let f = fit ks ch (Some (ch.start b)) w c room p j in
      let same = same_fields (ch.header (ch.start b)) (ch.header (ch.start c)) f.same in
      let both : ks.of (ch.header (ch.start c)).opcode (ch.header (ch.start c)).param ≡ Ok k = sym (ap (λ h. ks.of h.opcode h.param) same) ∙ e in
      let p-is = f.of in
      cc

module _ {K H B : Type 0} (ks : Kinds K) (ch : Beats K H B) (laws : Laws ch) (ms : Messages K H B) (w : Width) (k : K) (b : B) (d : ks.carries k ≡ true) where
  abbrev s : H
  s = ch.start b

  bytes_are : (bs : List B) → bytes_of ks ch w k s bs ≡ payload (lane_of ks ch w s) (per ks ch w s) (map (heard ks ch) bs)
  bytes_are bs = cond-true (ks.carries k) _ [] d

  head_is : (bs : List B) → head_of ks ch w k s bs ≡ ch.with_mask s (mask_of ks ch w s bs)
  head_is bs = ap (ch.with_mask s) (cond-true (ks.carries k) (mask_of ks ch w s bs) (whole (ch.header s).size) d)

  count_is : due ks ch w k s ≡ beats_in ks ch w true s
  count_is = ap (λ t. beats_in ks ch w t s) d

  -- the buffer with one beat more
  buffer_more : (bs : List B) (c : B) (xs ys zs : List ℕ) → ys ≡ bytes_of ks ch w k s bs ++ drop (length (bytes_of ks ch w k s bs)) xs → zs ≡ put (lane_of ks ch w s) (per ks ch w s) (length bs) (heard ks ch c) ys → zs ≡ bytes_of ks ch w k s (bs ++ c ∷ []) ++ drop (length (bytes_of ks ch w k s (bs ++ c ∷ []))) xs
  buffer_more bs c xs ys zs e t =
      let f = lane_of ks ch w s in
      let n = per ks ch w s in
      let lanes = heard ks ch in
      t ∙ ap (λ m. put f n m (lanes c) ys) (sym (length-map bs lanes))
      ∙ put_payload f n (lanes c) (map lanes bs) xs ys (e ∙ ap (λ vs. vs ++ drop (length vs) xs) (bytes_are bs))
      ∙ ap (λ l. payload f n l ++ drop (length (payload f n l)) xs) (sym (map_push lanes bs c))
      ∙ ap (λ vs. vs ++ drop (length vs) xs) (sym (bytes_are (bs ++ c ∷ [])))

  -- the mask with one beat more
  mask_more : (bs : List B) (c : B) → more_mask (lane_of ks ch w s) (per ks ch w s) (length bs * per ks ch w s) (ch.lane_mask c) (mask_of ks ch w s bs) ≡ mask_of ks ch w s (bs ++ c ∷ [])
  mask_more bs c =
      let f = lane_of ks ch w s in
      let n = per ks ch w s in
      ap (λ m. more_mask f n (m * n) (ch.lane_mask c) (mask_of ks ch w s bs)) (sym (length-map bs ch.lane_mask))
      ∙ sym (mask_push f n (map ch.lane_mask bs) (ch.lane_mask c))
      ∙ ap (joined_mask f n) (sym (map_push ch.lane_mask bs c))

  -- a head of which the beats bs have come, and one beat more
  module _ (bs : List B) (c : B) (h : H) (is : h ≡ ch.with_mask s (mask_of ks ch w s bs)) (mask : ch.mask h ≡ mask_of ks ch w s bs) where
    header_is : ch.header h ≡ ch.header s
    header_is = ap ch.header is ∙ laws.header_kept s (mask_of ks ch w s bs)

    grown_mask : more_mask (lane_of ks ch w h) (per ks ch w h) (length bs * per ks ch w h) (ch.lane_mask c) (ch.mask h) ≡ mask_of ks ch w s (bs ++ c ∷ [])
    grown_mask =
        (λ i. more_mask (first_lane (width_bytes w) (header_is i).address) (per_beat (width_bytes w) (header_is i).size) (length bs * per_beat (width_bytes w) (header_is i).size) (ch.lane_mask c) (mask i))
        ∙ mask_more bs c

    after_is : head_after ks ch w h (length bs) c ≡ ch.with_mask s (mask_of ks ch w s (bs ++ c ∷ []))
    after_is =
        ap (ch.with_mask h) grown_mask
        ∙ ap (λ x. ch.with_mask x (mask_of ks ch w s (bs ++ c ∷ []))) is
        ∙ laws.again s (mask_of ks ch w s bs) (mask_of ks ch w s (bs ++ c ∷ []))

    after_mask : ch.mask (head_after ks ch w h (length bs) c) ≡ mask_of ks ch w s (bs ++ c ∷ [])
    after_mask = laws.masked h c (lane_of ks ch w h) (per ks ch w h) (length bs * per ks ch w h) ∙ grown_mask

    buffer_after : (xs ys zs : List ℕ) → ys ≡ bytes_of ks ch w k s bs ++ drop (length (bytes_of ks ch w k s bs)) xs → zs ≡ buffer_with ks ch w h (length bs) c ys → zs ≡ bytes_of ks ch w k s (bs ++ c ∷ []) ++ drop (length (bytes_of ks ch w k s (bs ++ c ∷ []))) xs
    buffer_after xs ys zs e t =
        buffer_more bs c xs ys zs e (t ∙ (λ i. put (first_lane (width_bytes w) (header_is i).address) (per_beat (width_bytes w) (header_is i).size) (length bs) (heard ks ch c) ys))

    pub read_on : {U : Type 0} (at : U → Part H) (xs ys zs : List ℕ) (g : Begun H U) → length zs ≡ length xs → Read (rules_of ks ch ms) w k b bs xs ys → judged ks ch (Some s) w c (length xs) ≡ Ok k → Taken ks ch at w h (length bs) c ys g zs → Reached (rules_of ks ch ms) (HalfRead ks ch ms at) w k b (bs ++ c ∷ []) xs g zs
    read_on at xs ys zs (Whole g) long-buffer r j t =
        let end : length (bs ++ c ∷ []) ≡ due ks ch w k s = length_push bs c ∙ t.stands.0 ∙ ap (λ x. beat_count true (width_bytes w) x.size) header_is ∙ sym count_is in (
          end,
          record {
            begun = r.begun;
            accepted = All-push (λ x. judged ks ch (Some s) w x (length xs) ≡ Ok k) bs c r.accepted j;
            few = omega (arith, end);
            buffer = buffer_after xs ys zs r.buffer t.buffer;
          },
          t.stands.1 ∙ after_is ∙ sym (head_is (bs ++ c ∷ [])),
        )
    read_on at xs ys zs (Half u) long-buffer r j t =
        let count = ap (λ x. beat_count true (width_bytes w) x.size) header_is ∙ sym count_is in
        let more : length (bs ++ c ∷ []) < due ks ch w k s = omega (arith, length_push bs c, t.stands.0, count) in
        record {
          read =
              record {
                begun = r.begun;
                accepted = All-push (λ x. judged ks ch (Some s) w x (length xs) ≡ Ok k) bs c r.accepted j;
                few = omega (arith, more);
                buffer = buffer_after xs ys zs r.buffer t.buffer;
              };
          come = t.stands.1 ∙ (λ i. part ((after_is ∙ sym (head_is (bs ++ c ∷ []))) i) w (sym (length_push bs c) i));
          mask = ap (λ p. ch.mask p.head) t.stands.1 ∙ after_mask;
          carries = d;
          due = more;
          long = long-buffer;
        }

  -- a head whose mask the beats have brought has that mask
  mask_on : (bs cs : List B) → ch.mask (ch.with_mask s (mask_of ks ch w s bs)) ≡ mask_of ks ch w s bs → ch.mask (ch.with_mask s (mask_of ks ch w s (bs ++ cs))) ≡ mask_of ks ch w s (bs ++ cs)
  mask_on bs [] e =
      subst (λ x. ch.mask (ch.with_mask s (mask_of ks ch w s x)) ≡ mask_of ks ch w s x) (sym (append-nil bs)) e
  mask_on bs (c ∷ cs) e =
      subst (λ x. ch.mask (ch.with_mask s (mask_of ks ch w s x)) ≡ mask_of ks ch w s x) (append_assoc bs (c ∷ []) cs)
      (mask_on (bs ++ c ∷ []) cs (sym (ap ch.mask (after_is bs c (ch.with_mask s (mask_of ks ch w s bs)) refl e)) ∙ after_mask bs c (ch.with_mask s (mask_of ks ch w s bs)) refl e))

  mask_come : (bs : List B) → ch.mask (ch.with_mask s (mask_of ks ch w s bs)) ≡ mask_of ks ch w s bs
  mask_come bs = mask_on [] bs (ap ch.mask (laws.unset b) ∙ laws.unmasked b)

  -- so a burst waits if it has the head of its beats, their number and the width
  pub half_read : {U : Type 0} (at : U → Part H) (bs : List B) (xs : List ℕ) (u : U) (ys : List ℕ) → Read (rules_of ks ch ms) w k b bs xs ys → at u ≡ part (head_of ks ch w k s bs) w (length bs) → length bs < due ks ch w k s → length ys ≡ length xs → HalfRead ks ch ms at w k b bs xs u ys
  half_read at bs xs u ys r come more long =
      record {
        read = r;
        come = come;
        mask = ap (λ p. ch.mask p.head) come ∙ ap ch.mask (head_is bs) ∙ mask_come bs;
        carries = d;
        due = more;
        long = long;
      }

module _ {K H B : Type 0} (ks : Kinds K) (ch : Beats K H B) (laws : Laws ch) (ms : Messages K H B) {U : Type 0} (at : U → Part H) where
  none_read : (w : Width) (k : K) (b : B) (xs : List ℕ) → ks.carries k ≡ true → judged ks ch None w b (length xs) ≡ Ok k → Read (rules_of ks ch ms) w k b [] xs xs
  none_read w k b xs d j = record { begun = j; accepted = tt; few = omega arith; buffer = rw d }

  first_read : (w : Width) (k : K) (b : B) (xs : List ℕ) (g : Begun H U) (ys : List ℕ) → length ys ≡ length xs → judged ks ch None w b (length xs) ≡ Ok k → judged ks ch (Some (ch.start b)) w b (length xs) ≡ Ok k → (d : Bool) → ks.carries k ≡ d → First ks ch at k w b xs g ys → Reached (rules_of ks ch ms) (HalfRead ks ch ms at) w k b (b ∷ []) xs g ys
  first_read w k b xs g ys long first j true d f =
      let taken : Taken ks ch at w (ch.start b) 0 b xs g ys = rw d at f in
      read_on ks ch laws ms w k b d [] b (ch.start b) (sym (laws.unset b)) (laws.unmasked b) at xs xs ys g long (none_read w k b xs d first) j taken
  first_read w k b xs g ys long first j false d f =
      let both : (g ≡ Whole (ch.with_mask (ch.start b) (whole (ch.header (ch.start b)).size))) × (ys ≡ xs) = rw d at f in
      let one : due ks ch w k (ch.start b) ≡ 1 = ap (λ t. beats_in ks ch w t (ch.start b)) d in
      let nil : bytes_of ks ch w k (ch.start b) (b ∷ []) ≡ [] = cond-false (ks.carries k) _ [] d in
      subst (λ x. Reached (rules_of ks ch ms) (HalfRead ks ch ms at) w k b (b ∷ []) xs x ys) (sym both.0) (
        sym one,
        record {
          begun = first;
          accepted = (j, tt);
          few = omega (arith, one);
          buffer = both.1 ∙ ap (λ vs. vs ++ drop (length vs) xs) (sym nil);
        },
        ap (ch.with_mask (ch.start b)) (sym (cond-false (ks.carries k) _ (whole (ch.header (ch.start b)).size) d)),
      )

  -- a burst that waits, and its next beat
  module _ (w : Width) (k : K) (b : B) (bs : List B) (xs : List ℕ) (u : U) (ys : List ℕ) (h : HalfRead ks ch ms at w k b bs xs u ys) (c : B) where
    head_there : (at u).head ≡ ch.with_mask (ch.start b) (mask_of ks ch w (ch.start b) bs)
    head_there = ap (λ p. p.head) h.come ∙ head_is ks ch laws ms w k b h.carries bs

    burst_judged : judged ks ch (Some (at u).head) (at u).width c (length ys) ≡ judged ks ch (Some (ch.start b)) w c (length xs)
    burst_judged =
        (λ i. judged ks ch (Some (at u).head) (h.come i).width c (h.long i))
        ∙ judged_by ks ch (at u).head (ch.start b) (ap ch.header head_there ∙ laws.header_kept (ch.start b) (mask_of ks ch w (ch.start b) bs)) w c (length xs)

    pub burst_on : (g : Begun H U) (zs : List ℕ) → length zs ≡ length ys → Went ks ch at u c ys (Ok g) zs → Reached (rules_of ks ch ms) (HalfRead ks ch ms at) w k b (bs ++ c ∷ []) xs g zs
    burst_on g zs long went =
        let parts = carried_on (λ e. (e, u)) (judged ks ch (Some (at u).head) (at u).width c (length ys)) g ys zs (λ p. Taken ks ch at (at u).width (at u).head (at u).come c ys g zs) went in
        let j : judged ks ch (Some (ch.start b)) w c (length xs) ≡ Ok parts.0 = sym burst_judged ∙ parts.1 in
        let same : parts.0 ≡ k = same_kind ks ch w b c (length xs) k parts.0 (fit ks ch None w b (length xs) k h.read.begun).of j in
        read_on ks ch laws ms w k b h.carries bs c (at u).head head_there h.mask at xs ys zs g (long ∙ h.long) h.read (j ∙ ap Ok same)
        (subst (λ (T : Type 0). T) (λ i. Taken ks ch at (h.come i).width (at u).head (h.come i).come c ys g zs) parts.2)

    pub burst_stops : (e : Refusal) (v : U) (zs : List ℕ) → Went ks ch at u c ys (Err (e, v)) zs → (judged ks ch (Some (ch.start b)) w c (length xs) ≡ Err e) × (zs ≡ ys)
    burst_stops e v zs went =
        let r : Result (Begun H U) (Refusal × U) = Err (e, v) in
        let parts = stopped (λ x. (x, u)) (judged ks ch (Some (at u).head) (at u).width c (length ys)) r (e, v) ys zs (λ p. ⊥) (λ p x. x) refl went in
        (sym burst_judged ∙ parts.1 ∙ ap Err (sym (ap (λ x. x.0) parts.2)), parts.3)

  -- the first beat
  pub begun_on : (n : ℕ) (w : Width) (b : B) (xs : List ℕ) (g : Begun H U) (ys : List ℕ) → length ys ≡ length xs → width_of n ≡ Ok w → Began ks ch at n b xs (Ok g) ys → (k : K) × (judged ks ch None w b (length xs) ≡ Ok k) × Reached (rules_of ks ch ms) (HalfRead ks ch ms at) w k b (b ∷ []) xs g ys
  begun_on n w b xs g ys long wide began =
      let r : Result (Begun H U) Refusal = Ok g in
      let inner = subst (λ v. UnlessRefused (λ e. e) v r xs ys (λ x. UnlessRefused (λ e. e) (judged ks ch None x b (length xs)) r xs ys (λ k. First ks ch at k x b xs g ys))) wide began in
      let parts = carried_on (λ e. e) (judged ks ch None w b (length xs)) g xs ys (λ k. First ks ch at k w b xs g ys) inner in
      let k = parts.0 in
      (k, parts.1, first_read w k b xs g ys long parts.1 (self_judged ks ch w b (length xs) ∙ parts.1) (ks.carries k) refl parts.2)

  pub begun_stops : (n : ℕ) (w : Width) (b : B) (xs : List ℕ) (e : Refusal) (ys : List ℕ) → width_of n ≡ Ok w → Began ks ch at n b xs (Err e) ys → (judged ks ch None w b (length xs) ≡ Err e) × (ys ≡ xs)
  begun_stops n w b xs e ys wide began =
      let r : Result (Begun H U) Refusal = Err e in
      let inner = subst (λ v. UnlessRefused (λ e. e) v r xs ys (λ x. UnlessRefused (λ e. e) (judged ks ch None x b (length xs)) r xs ys (λ k. ⊥))) wide began in
      let parts = stopped (λ x. x) (judged ks ch None w b (length xs)) r e xs ys (λ p. ⊥) (λ p x. x) refl inner in
      (parts.1 ∙ ap Err (sym parts.2), parts.3)

  -- the reader's two calls, as joining asks for them
  pub begins : (n : ℕ) (b : B) (xs : List ℕ) (r : Result (Begun H U) Refusal) (ys : List ℕ) → length ys ≡ length xs → Began ks ch at n b xs r ys → Begins (rules_of ks ch ms) (HalfRead ks ch ms at) n b xs r ys
  begins n b xs (Ok g) ys long began w wide =
      let r : Result (Begun H U) Refusal = Ok g in
      let parts = begun_on n w b xs g ys long wide began in
      not_refused (λ e. e) (judged ks ch None w b (length xs)) parts.0 r xs ys (λ k. Reached (rules_of ks ch ms) (HalfRead ks ch ms at) w k b (b ∷ []) xs g ys) parts.1 parts.2
  begins n b xs (Err e) ys long began w wide =
      let r : Result (Begun H U) Refusal = Err e in
      let parts = begun_stops n w b xs e ys wide began in
      subst (λ v. UnlessRefused (λ x. x) v r xs ys (λ k. ⊥)) (sym parts.0) (refl, parts.1)

  pub continues : (u : U) (c : B) (ys : List ℕ) (r : Result (Begun H U) (Refusal × U)) (zs : List ℕ) → length zs ≡ length ys → Went ks ch at u c ys r zs → Continues (rules_of ks ch ms) (HalfRead ks ch ms at) u c ys r zs
  continues u c ys (Ok g) zs long went w k b bs xs h = burst_on w k b bs xs u ys h c g zs long went
  continues u c ys (Err e) zs long went w k b bs xs h = burst_stops w k b bs xs u ys h c e.0 e.1 zs went

  -- a burst that is given up tells the head that its beats have together
  pub given_up : (u : U) (h : H) → h ≡ (at u).head → (w : Width) (k : K) (b : B) (bs : List B) (xs ys : List ℕ) → HalfRead ks ch ms at w k b bs xs u ys → h ≡ head_of ks ch w k (ch.start b) bs
  given_up u h is w k b bs xs ys half = is ∙ ap (λ p. p.head) half.come
