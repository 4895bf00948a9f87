use Rattle.std.proofs.Common.{◌≡◌, ◌+◌, ◌^◌, ◌<◌, ◌++◌, length, vec_items}
use Rattle.std.specs.Slice.Iter.{iter_rest}
use Rattle.sheet.specs.Lines.{lines_of}
use Rattle.sheet.specs.Text.{texts}
use Rattle.vetting.specs.Report.{rows_of, tally_of}
use Rattle.vetting.proofs.address_map.AddressMap.vet_sheet.Given as goal

abbrev pub invariant-loop-number : goal.invariant-loop-number
invariant-loop-number l =
    let number = l.number-iterator.a.start in
    let rest = iter_rest l.number-iterator.b in
    (number + length rest < 2 ^ 64)
    × (vec_items l.report.rows ++ rows_of l.self number (texts rest) ≡ rows_of l.self 1 (lines_of l.sheet))
    × (l.report.tally ≡ tally_of (vec_items l.report.rows))
