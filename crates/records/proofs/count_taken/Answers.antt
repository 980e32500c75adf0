-- `count_taken` meets its contract: the records are as many as the counts that are not 0. Assumes nothing.
use Rattle.std.proofs.Common.{◌≡◌, ◌≤◌, sym, ◌∙◌, rules, arith, take, ltb}
use Rattle.std.specs.Prelude.{count_by}
use Rattle.std.proofs.lemmas.List.{length-take}
use Rattle.std.proofs.lemmas.List.Sums.{length-filter, count_by-le-length}
use Rattle.records.specs.Records.{records_counted}
use Rattle.records.proofs.count_taken.Goals as goal

pub returns : goal.returns
returns c =
    let m = c.args.moves in
    let xs = c.args.counts.now in
    let counted : c.count.result ≡ count_by (ltb 0) (take c.args.moves c.args.counts.now) = search rules in
    let few : c.count.result ≤ c.args.moves = omega (arith, count_by-le-length (ltb 0) (take m xs), length-take m xs, counted) in
    (counted ∙ sym (length-filter (ltb 0) (take m xs)) ∙ records_counted xs m c.requires, few)
