use Rattle.std.proofs.Common.{rules, ◌<◌, ◌^◌, ◌∙◌, All, sym, subst, arith}
use Rattle.std.specs.Prelude.{IfSome}
use Rattle.cat_key.specs.Names.{IsName}
use Rattle.cat_key.specs.declared.Pair.{Pair}
use Rattle.pac_index.specs.Callers.{seen_by}
use Rattle.pac_index.proofs.Repeating.{not_done_cut}
use Rattle.pac_index.proofs.Scanning.{cut_reads, cut_scan, part_is, part_reads}
use Rattle.pac_index.proofs.shared.Shared.read_part.Goals as goal

pub returns-clause-part : goal.returns-clause-part
returns-clause-part g c =
    let told = c.in_ok-listed_pairs.ensures in
    let words = c.in-Done.words in
    let low : IsName c.args.low = search rules in
    let high : IfSome words.high IsName = search rules in
    let place : words.place < 2 ^ 64 = search arith in
    part_is c.args.low c.args.left c.args.caller.now.index (seen_by c.args.caller.now) (seen_by c.part_at_pace-ended.new.caller) words c.in-Done.ensures.done.ends c.of.result (c.of.ensures ∙ told.pairs)
    (record {
      low = low;
      high = high;
      place = place;
      pairs = subst (All (λ (pair : Pair). IsName pair.name × (pair.value < 2 ^ 64))) (sym c.of.ensures) told.named;
    })

pub returns-clause-reads : goal.returns-clause-reads
returns-clause-reads g c = part_reads c.args.low c.args.left c.args.caller.now.index (seen_by c.args.caller.now) (seen_by c.part_at_pace-ended.new.caller) c.in-Done.words c.in-Done.ensures.done.ends

pub returns-in_err-listed_pairs-clause-reads : goal.returns-in_err-listed_pairs-clause-reads
returns-in_err-listed_pairs-clause-reads g c = part_reads c.args.low c.args.left c.args.caller.now.index (seen_by c.args.caller.now) (seen_by c.part_at_pace-ended.new.caller) c.in-Done.words c.in-Done.ensures.done.ends

pub returns-in_default-clause-ends : goal.returns-in_default-clause-ends
returns-in_default-clause-ends g c =
    cut_scan c.args.low c.args.left c.args.caller.now c.part_at_pace-ended.new.caller (not_done_cut c.part_at_pace-ended.result _ _ c.part_at_pace-ended.ensures.done c.in_default.not-Done)

pub returns-in_default-clause-reads : goal.returns-in_default-clause-reads
returns-in_default-clause-reads g c =
    cut_reads c.args.low c.args.left c.args.caller.now c.part_at_pace-ended.new.caller (not_done_cut c.part_at_pace-ended.result _ _ c.part_at_pace-ended.ensures.done c.in_default.not-Done)
