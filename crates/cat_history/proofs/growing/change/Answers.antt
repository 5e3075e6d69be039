use Rattle.std.proofs.Common.{List, ℕ, sym, ap, ◌∙◌}
use Rattle.std.specs.BTreeMap.{insert_entry, is_at}
use Rattle.std.specs.FinMap.{entries}
use Rattle.std.specs.Map.{remove_entry}
use Rattle.cat_key.specs.Names.{name_cmp}
use Rattle.cat_history.specs.Writes.{changed}
use Rattle.cat_history.specs.declared.op.Change.{Change}
use Rattle.cat_history.proofs.ReplayLemmas.{entries-put, entries-removed}
use Rattle.cat_history.proofs.growing.change.Goals as goal

pub returns-in_ok-insert-in-Put : goal.returns-in_ok-insert-in-Put
returns-in_ok-insert-in-Put c = record {
  ok = λ m same. c.in_ok-insert-in-Put.ensures.entries
      ∙ ap (λ (es : List (List ℕ × ℕ)). insert_entry name_cmp es c.in-Put.name c.in-Put.value) same
      ∙ entries-put m c.in-Put.name c.in-Put.value
      ∙ ap (λ (change : Change). entries (changed m change)) (sym c.in-Put.is);
}

pub returns-in-Del : goal.returns-in-Del
returns-in-Del c = record {
  ok = λ m same. c.remove.ensures.entries
      ∙ ap (λ (es : List (List ℕ × ℕ)). remove_entry (is_at (name_cmp c.in-Del.name)) es) same
      ∙ entries-removed m c.in-Del.name
      ∙ ap (λ (change : Change). entries (changed m change)) (sym c.in-Del.is);
}
