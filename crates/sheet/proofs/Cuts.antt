-- How the code cuts a text into lines, and a line into its words.
use Rattle.std.proofs.Common.{◌≡◌, ℕ, ◌<◌, ◌≤◌, Bool, true, false, not, cond, ltb, List, [], ◌∷◌, ◌++◌, length, take, drop, filter, Some, None, unwrap_or, refl, ap, ◌∙◌, one-add, arith}
use Rattle.std.specs.List.{onto_first, position_or_len, slice_split}
use Rattle.sheet.specs.Text.{line_feed, blank, comment}
use Rattle.sheet.specs.Lines.{lines_of}
use Rattle.sheet.specs.Words.{said, pieces, some, runs}

-- a line ends where its comment begins
pub said_is : (bs : List ℕ) → said bs ≡ take (position_or_len comment bs) bs
said_is [] = refl
said_is (b ∷ bs) = by (comment b) refl (said_is bs)
  where
    by : (t : Bool) → comment b ≡ t → said bs ≡ take (position_or_len comment bs) bs → said (b ∷ bs) ≡ take (position_or_len comment (b ∷ bs)) (b ∷ bs)
    by true e on = rw e refl
    by false e on = rw (e, one-add) (ap (λ xs. b ∷ xs) on)

-- a place that was looked for, or else the end
pub place_found : (n len : ℕ) → n ≤ len → unwrap_or (cond (ltb n len) (Some n) None) len ≡ n
place_found n len h = grind arith

pub no_lines : (text : List ℕ) → length text ≡ 0 → lines_of text ≡ []
unfolding lines_of
no_lines [] h = refl
no_lines (b ∷ bs) h = absurd (omega arith)

-- the lines of a text that ends at a line feed are the pieces before it
pub lines_ended : (bs : List ℕ) (b : ℕ) → line_feed b ≡ true → lines_of (bs ++ b ∷ []) ≡ slice_split line_feed bs
unfolding lines_of
lines_ended [] b h = rw h refl
lines_ended (c ∷ bs) b h = ap (λ ls. cond (line_feed c) ([] ∷ ls) (onto_first c ls)) (lines_ended bs b h)

-- those of one that ends at another byte are its pieces
pub lines_open : (bs : List ℕ) (b : ℕ) → line_feed b ≡ false → lines_of (bs ++ b ∷ []) ≡ slice_split line_feed (bs ++ b ∷ [])
unfolding lines_of
lines_open [] b h = rw h refl
lines_open (c ∷ bs) b h = ap (λ ls. cond (line_feed c) ([] ∷ ls) (onto_first c ls)) (lines_open bs b h)

-- the pieces after the first
abbrev later : List ℕ → List (List ℕ)
later [] = []
later (b ∷ bs) = cond (blank b) (pieces bs) (later bs)

abbrev pub past_blanks : List ℕ → List ℕ
past_blanks bs = drop (position_or_len (λ b. not (blank b)) bs) bs

abbrev pub word_length : List ℕ → ℕ
word_length bs = position_or_len blank bs

pieces_are : (bs : List ℕ) → pieces bs ≡ take (word_length bs) bs ∷ later bs
pieces_are [] = refl
pieces_are (b ∷ bs) = by (blank b) refl (pieces_are bs)
  where
    by : (t : Bool) → blank b ≡ t → pieces bs ≡ take (word_length bs) bs ∷ later bs → pieces (b ∷ bs) ≡ take (word_length (b ∷ bs)) (b ∷ bs) ∷ later (b ∷ bs)
    by true e on = rw e refl
    by false e on = rw (e, one-add) (ap (onto_first b) on)

later_are : (bs : List ℕ) → filter some (later bs) ≡ runs (drop (word_length bs) bs)
unfolding runs
later_are [] = refl
later_are (b ∷ bs) = by (blank b) refl (later_are bs)
  where
    by : (t : Bool) → blank b ≡ t → filter some (later bs) ≡ runs (drop (word_length bs) bs) → filter some (later (b ∷ bs)) ≡ runs (drop (word_length (b ∷ bs)) (b ∷ bs))
    by true e on = rw (e, e) refl
    by false e on = rw (e, one-add) on

pub no_runs : (bs : List ℕ) → length bs ≡ 0 → runs bs ≡ []
unfolding runs
no_runs [] h = refl
no_runs (b ∷ bs) h = absurd (omega arith)

pub skipped : (bs : List ℕ) → runs bs ≡ runs (past_blanks bs)
unfolding runs
skipped [] = refl
skipped (b ∷ bs) = by (blank b) refl (skipped bs)
  where
    by : (t : Bool) → blank b ≡ t → runs bs ≡ runs (past_blanks bs) → runs (b ∷ bs) ≡ runs (past_blanks (b ∷ bs))
    by true e on = rw (e, one-add) on
    by false e on = rw (e, e) refl

-- past its blanks a text is at its end or at a word
pub at_word : (bs : List ℕ) → 0 < length (past_blanks bs) → 0 < word_length (past_blanks bs)
at_word [] = λ h. absurd (omega arith)
at_word (b ∷ bs) = by (blank b) refl (at_word bs)
  where
    by : (t : Bool) → blank b ≡ t → (0 < length (past_blanks bs) → 0 < word_length (past_blanks bs)) → 0 < length (past_blanks (b ∷ bs)) → 0 < word_length (past_blanks (b ∷ bs))
    by true e on = rw (e, one-add) on
    by false e on = rw (e, e) (λ h. omega arith)

pub first_run : (bs : List ℕ) → 0 < word_length bs → runs bs ≡ take (word_length bs) bs ∷ runs (drop (word_length bs) bs)
unfolding runs
first_run [] = λ h. absurd (omega arith)
first_run (b ∷ bs) = by (blank b) refl
  where
    by : (t : Bool) → blank b ≡ t → 0 < word_length (b ∷ bs) → runs (b ∷ bs) ≡ take (word_length (b ∷ bs)) (b ∷ bs) ∷ runs (drop (word_length (b ∷ bs)) (b ∷ bs))
    by true e h = absurd (omega (arith, rw e at h))
    by false e h = rw (e, one-add) (ap (λ ps. filter some (onto_first b ps)) (pieces_are bs) ∙ ap (λ ws. (b ∷ take (word_length bs) bs) ∷ ws) (later_are bs))
