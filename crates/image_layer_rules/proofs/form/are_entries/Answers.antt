use Rattle.std.proofs.Common.{rules, inl, inr, subst, sym, refl, arith}
use Rattle.std.proofs.lemmas.Bool.{cases_eq}
use Rattle.radix_nodes.specs.Cells.{words_of}
use Rattle.image_layer_rules.specs.Forms.{IsEntryIn}
use Rattle.image_layer_rules.proofs.FormLemmas.{entries_from}
use Rattle.image_layer_rules.proofs.form.are_entries.Goals as goal

pub loop-entry-preserved : goal.loop-entry-preserved
loop-entry-preserved c i lt =
    let here : IsEntryIn (words_of c.args.cell.now) c.args.first c.loop-entry.entry = c.is_entry.ensures.0 (search rules) in
    elim (cases_eq i c.loop-entry.entry) [
      | inl same ↦ subst (IsEntryIn (words_of c.args.cell.now) c.args.first) (sym same) here
      | inr apart ↦ c.loop-entry.invariant i (omega (arith, apart))
    ]

pub returns : goal.returns
returns c = (
  λ _. entries_from (words_of c.args.cell.now) c.args.first c.args.count (λ i lt. c.loop-entry.invariant i (omega arith)),
  λ _. refl,
)
