-- Rows and counts, one line more.
use Rattle.std.proofs.Common.{◌≡◌, ℕ, ◌+◌, List, [], ◌∷◌, ◌++◌, length, fold, Option, sym, ap, ◌∙◌, append_assoc, arith, Bor}
use Rattle.std.proofs.lemmas.List.{append-nil}
use Rattle.std.proofs.lemmas.List.Sums.{fold-append}
use Rattle.sheet.specs.Line.{line_of}
use Rattle.sheet.specs.Text.{texts}
use Rattle.vetting.specs.declared.address_map.AddressMap.{AddressMap}
use Rattle.vetting.specs.declared.finding.Finding.{Finding}
use Rattle.vetting.specs.declared.report.Row.{Row}
use Rattle.vetting.specs.declared.report.Tally.{Tally}
use Rattle.vetting.specs.Finding.{finding_of}
use Rattle.vetting.specs.Report.{empty, by_row, tally_of, row_of, rows_of}

-- a line more, with the row of what was found in it
pub row_next : (m : AddressMap) (n k : ℕ) (line : Bor (List ℕ)) (rest : List (Bor (List ℕ))) (old : List Row) (f : Option Finding) → k ≡ n + 1 → f ≡ finding_of m (line_of line.now) → (old ++ row_of n f) ++ rows_of m k (texts rest) ≡ old ++ rows_of m n (texts (line ∷ rest))
row_next m n k line rest old f next found =
    append_assoc old (row_of n f) (rows_of m k (texts rest))
    ∙ (λ i. old ++ (row_of n (found i) ++ rows_of m (next i) (texts rest)))

-- no line more
pub no_rows : (m : AddressMap) (n : ℕ) (rest : List (Bor (List ℕ))) (old : List Row) → length rest ≡ 0 → old ++ rows_of m n (texts rest) ≡ old
no_rows m n [] old h = append-nil old
no_rows m n (line ∷ rest) old h = absurd (omega (arith, h))

-- the counts with a line more
pub tally_more : (t : Tally) (old row : List Row) → t ≡ tally_of old → fold by_row t row ≡ tally_of (old ++ row)
tally_more t old row e = ap (λ u. fold by_row u row) e ∙ sym (fold-append by_row empty old row)
