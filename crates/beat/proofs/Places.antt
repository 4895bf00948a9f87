-- Which byte of a message goes in which lane: by its address, and by its place in the message.
use Rattle.std.proofs.Common.{◌≡◌, ℕ, ◌+◌, ◌-◌, ◌*◌, ◌/◌, ◌%◌, ◌^◌, ◌<◌, ◌≤◌, true, sym, refl, ap, ◌∙◌, subst, ⊎_elim, add-mul, zero-mul, arith}
use native.Mathlib.Nat.{div-eq_of_lt}
use Rattle.std.proofs.lemmas.Nat.{div-add-mod', div-mul-add, mod-mul-add, mod_below, div_below}
use Rattle.std.proofs.lemmas.Bool.{cases_lt}
use Rattle.beat.specs.Lanes.{Goes, Sent, Received, per_beat, first_lane, beat_count}
use Rattle.beat.proofs.Widths.{Shape, beat_ends}

module _ (w size address : ℕ) (s : Shape w size address) where
  -- byte t of beat j, by the lanes of the bus
  byte_at : (j t : ℕ) → j < beat_count true w size → t < per_beat w size → address + (j * per_beat w size + t) ≡ (address / w + j) * w + (first_lane w address + t)
  byte_at j t lt few =
      let k = per_beat w size in
      let is = div-add-mod' address w in
      ⊎_elim
      (λ (narrow : 2 ^ size < w).
      let none : 2 ^ size / w ≡ 0 = div-eq_of_lt narrow in
      let z : j ≡ 0 = omega (arith, lt, none) in
      ap (λ i. address + (i * k + t)) z
      ∙ omega (arith, zero-mul k, is)
      ∙ ap (λ i. (address / w + i) * w + (address % w + t)) {x = 0} {y = j} (sym z))
      (λ (broad : w ≤ 2 ^ size).
      let all : k ≡ w = omega arith in
      let first : address % w ≡ 0 = omega (arith, s.within) in
      ap (λ n. address + (j * n + t)) all ∙ omega (arith, is, first, add-mul (address / w) j w))
      (cases_lt (2 ^ size) w)

  -- byte t of beat j goes in that beat
  pub comes : (j t : ℕ) → j < beat_count true w size → t < per_beat w size → Goes w address size (address + (j * per_beat w size + t)) j (first_lane w address + t)
  comes j t lt few =
      let f = first_lane w address in
      let at = byte_at j t lt few in
      let room : f + t < w = omega (arith, s.within) in
      let beat : (address + (j * per_beat w size + t)) / w ≡ address / w + j = ap (λ n. n / w) at ∙ div-mul-add (address / w + j) w (f + t) room in
      record {
        from = omega arith;
        to = omega (arith, beat_ends s j (per_beat w size) lt refl);
        lane_is = sym (ap (λ n. n % w) at ∙ mod-mul-add (address / w + j) w (f + t) room);
        beat_is = omega (arith, beat);
      }

  -- and whatever goes in a beat is such a byte
  pub record Byte (a j i : ℕ) : Type 0 where
    pub nth : ℕ
    pub few : nth < per_beat w size
    pub lane_is : i ≡ first_lane w address + nth
    pub place_is : a - address ≡ j * per_beat w size + nth

  pub byte_of : (a j i : ℕ) → Goes w address size a j i → Byte a j i
  byte_of a j i g =
      let k = per_beat w size in
      let p = a - address in
      let split : p / k * k + p % k ≡ p = div-add-mod' p k in
      let lt : p / k < beat_count true w size = div_below p k (beat_count true w size) s.some (omega (arith, g.to, g.from, s.whole)) in
      let few : p % k < k = mod_below p k s.some in
      let c = comes (p / k) (p % k) lt few in
      let is : address + (p / k * k + p % k) ≡ a = omega (arith, g.from) in
      let beat : j ≡ p / k = g.beat_is ∙ ap (λ n. n / w - address / w) (sym is) ∙ sym c.beat_is in
      record {
        nth = p % k;
        few = few;
        lane_is = g.lane_is ∙ ap (λ n. n % w) (sym is) ∙ sym c.lane_is;
        place_is = sym split ∙ ap (λ n. n * k + p % k) (sym beat);
      }

  -- what a writer has to see to
  pub sent_by : (j : ℕ) (message lanes : ℕ → ℕ) → j < beat_count true w size
      → ((t : ℕ) → t < per_beat w size → lanes (first_lane w address + t) ≡ message (j * per_beat w size + t))
      → ((i : ℕ) → i < first_lane w address → lanes i ≡ 0)
      → ((t : ℕ) → per_beat w size ≤ t → lanes (first_lane w address + t) ≡ 0)
      → Sent w address size j message lanes
  sent_by j message lanes lt inside before behind =
      let f = first_lane w address in
      let k = per_beat w size in
      record {
        carried = λ a i g. let b = byte_of a j i g in ap lanes b.lane_is ∙ inside b.nth b.few ∙ ap message (sym b.place_is);
        idle = λ i none.
            ⊎_elim (λ (h : i < f). before i h)
            (λ (h : f ≤ i).
            let is : i ≡ f + (i - f) = omega arith in
            ⊎_elim
            (λ (few : i - f < k). absurd (none (address + (j * k + (i - f))) (subst (λ x. Goes w address size (address + (j * k + (i - f))) j x) (sym is) (comes j (i - f) lt few))))
            (λ (past : k ≤ i - f). ap lanes is ∙ behind (i - f) past)
            (cases_lt (i - f) k))
            (cases_lt i f);
      }

  -- what a reader has to see to
  pub received_by : (j : ℕ) (lanes before after : ℕ → ℕ) → j < beat_count true w size
      → ((t : ℕ) → t < per_beat w size → after (j * per_beat w size + t) ≡ lanes (first_lane w address + t))
      → ((p : ℕ) → p < j * per_beat w size → after p ≡ before p)
      → ((p : ℕ) → j * per_beat w size + per_beat w size ≤ p → after p ≡ before p)
      → Received w address size j lanes before after
  received_by j lanes before after lt inside below above =
      let k = per_beat w size in
      record {
        carried = λ a i g. let b = byte_of a j i g in ap after b.place_is ∙ inside b.nth b.few ∙ ap lanes (sym b.lane_is);
        kept = λ p none.
            ⊎_elim (λ (h : p < j * k). below p h)
            (λ (h : j * k ≤ p).
            ⊎_elim
            (λ (few : p - j * k < k). absurd (none (address + (j * k + (p - j * k))) (first_lane w address + (p - j * k)) (comes j (p - j * k) lt few) (omega arith)))
            (λ (past : k ≤ p - j * k). above p (omega arith))
            (cases_lt (p - j * k) k))
            (cases_lt p (j * k));
      }
