use Rattle.std.proofs.Common.{◌∙◌, eqb, Some, ap, sym}
use Rattle.std.specs.Option.{option_eq, is_none}
use Rattle.cat_history.specs.CrashRounds.{is_shown}
use Rattle.cat_history.specs.Records.{change_asked}
use Rattle.cat_history.specs.declared.op.Op.{Op}
use Rattle.transcript.proofs.TreeLemmas.{at_tree, same_value, none_copied, none_told}
use Rattle.transcript.proofs.ends.shows.Goals as goal

pub returns-in-Put : goal.returns-in-Put
returns-in-Put c = λ m is.
    let found = c.copied.ensures ∙ c.get.ensures.value ∙ at_tree m c.args.names.now.entries c.in-Put.name is in
    c.eq.ensures ∙ ap (λ o. option_eq eqb o (Some c.in-Put.value)) found ∙ same_value _ c.in-Put.value ∙ ap (λ (op : Op). is_shown m (change_asked op)) (sym c.in-Put.is)

pub returns-in-Del : goal.returns-in-Del
returns-in-Del c = λ m is.
    none_told c.is_none.result c.get-in-Del.result (sym c.is_none.ensures) ∙ sym (none_copied c.get-in-Del.result) ∙ ap is_none (c.get-in-Del.ensures.value ∙ at_tree m c.args.names.now.entries c.in-Del.name is)
    ∙ ap (λ (op : Op). is_shown m (change_asked op)) (sym c.in-Del.is)
