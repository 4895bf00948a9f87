-- What is reported of a sheet, and how it is counted.
use Rattle.std.specs.Prelude.{◌≡◌, ℕ, ◌+◌, ◌-◌, ◌^◌, min, List, [], ◌∷◌, ◌++◌, Some, None, Ok, Err, vec_items, fold, Option}
use Rattle.sheet.specs.Line.{line_of}
use Rattle.sheet.specs.Lines.{lines_of}
use Rattle.vetting.specs.declared.address_map.AddressMap.{AddressMap}
use Rattle.vetting.specs.declared.finding.Finding.{Finding}
use Rattle.vetting.specs.declared.finding.Finding.TheVariants as finding
use Rattle.vetting.specs.declared.report.Report.{Report}
use Rattle.vetting.specs.declared.report.Row.{Row}
use Rattle.vetting.specs.declared.report.Tally.{Tally}
use Rattle.vetting.specs.Finding.{finding_of}

-- counters stop at the largest number that fits
abbrev pub one_more : ℕ → ℕ
one_more n = min (n + 1) (2 ^ 64 - 1)

-- before the first line
abbrev pub empty : Tally
empty = record { legal = 0; refused = 0; unreadable = 0 }

-- a finding counts once
abbrev pub counted : Tally → Finding → Tally
counted t (finding.Request q (Ok legal)) =
    record { legal = one_more t.legal; refused = t.refused; unreadable = t.unreadable }
counted t (finding.Request q (Err e)) =
    record { legal = t.legal; refused = one_more t.refused; unreadable = t.unreadable }
counted t (finding.Unreadable why) =
    record { legal = t.legal; refused = t.refused; unreadable = one_more t.unreadable }

-- a row counts as its finding
abbrev pub by_row : Tally → Row → Tally
by_row t row = counted t row.finding

-- the counts of rows
abbrev pub tally_of : List Row → Tally
tally_of rows = fold by_row empty rows

-- a row for line n, if there is something to say of it
abbrev pub row_of : ℕ → Option Finding → List Row
row_of n None = []
row_of n (Some f) = record { line = n; finding = f } ∷ []

-- the rows of lines that are numbered from n on
abbrev pub rows_of : AddressMap → ℕ → List (List ℕ) → List Row
rows_of m n [] = []
rows_of m n (line ∷ lines) = row_of n (finding_of m (line_of line)) ++ rows_of m (n + 1) lines

-- the report of a sheet has its rows, the lines numbered from 1 on, and their counts
pub record Reports (m : AddressMap) (sheet : List ℕ) (r : Report) : Type 0 where
  pub rows : vec_items r.rows ≡ rows_of m 1 (lines_of sheet)
  pub counts : r.tally ≡ tally_of (vec_items r.rows)
