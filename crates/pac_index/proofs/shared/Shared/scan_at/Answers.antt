use Rattle.std.proofs.Common.{sym, ap, ◌∙◌}
use Rattle.index_core.specs.PartyStates.{next_index}
use Rattle.pac_index.proofs.Scanning.{cut_ends, end_counts}
use Rattle.pac_index.proofs.shared.Shared.scan_at.Goals as goal

pub returns-then-is_cut-clause-ends : goal.returns-then-is_cut-clause-ends
returns-then-is_cut-clause-ends g c =
    cut_ends c.read_parts-scanned.result c.args.caller.now c.read_parts-scanned.new.caller (sym c.if-is_cut.ensures) c.read_parts-scanned.ensures.index c.read_parts-scanned.ensures.ends

pub returns-clause-ends : goal.returns-clause-ends
returns-clause-ends g c =
    end_counts c.read_parts-scanned.result c.args.caller.now c.read_parts-scanned.new.caller c.saturating_add-caller.result (sym c.if-is_cut.ensures) (c.saturating_add-caller.ensures ∙ ap next_index c.read_parts-scanned.ensures.index)
    c.read_parts-scanned.ensures.ends
