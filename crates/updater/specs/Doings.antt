-- What a turn of the updater does, by what it was told.
use Rattle.std.specs.Prelude.{◌≡◌, ℕ, ◌<◌, true}
use Rattle.pm_words.specs.declared.action.Action.{Action}
use Rattle.pm_words.specs.declared.action.Action.TheVariants.{Load, Store}
use Rattle.pm_words.specs.Codes.{empty_state, merge_kind, untaken_lock}
use Rattle.pm_words.specs.Offsets.{state_offset}
use Rattle.call_stages.specs.Kinds.{status_address}
use Rattle.pm_alloc.specs.Gone.{stamp_address}
use Rattle.updater_row_law.specs.tree_update.specs.declared.change.Change.{Change}
use Rattle.updater_row_law.specs.tree_update.specs.Changes.{change_asks}
use Rattle.smo_log.specs.LogLines.{numbered_address}
use Rattle.updater.specs.declared.terms.Terms.{Terms}
use Rattle.updater.specs.declared.work.Work.{Work}
use Rattle.updater.specs.Takings.{updater_address}
use Rattle.updater_row_law.specs.Columns.{line_count}
use Rattle.updater.specs.Works.{work_asks, IsWork}
use Rattle.updater.specs.Events.{Heard, is_emptied, is_freed, word_led, HasHeard}

-- It loads a word; or it leads the anchor of a READY line whose target stands to where it belongs, stamps the node of
-- such a line of a merge, or empties the line; or takes the stamp of a GONE node that the release allows and that isn't
-- worn, or makes it FREE; or gives back the updater lock.
pub data Does (terms : Terms) (h : Heard) : Action → Type 0 where
  loads : {address : ℕ} → Does terms h (Load address)
  leads : {line : ℕ} (change : Change) → line < line_count terms.layout → is_emptied h line ≡ true →
      change.layout ≡ terms.layout → change.key ≡ (h.entry line).anchor →
      change.word ≡ word_led (h.entry line) (h.walked line) → Does terms h (change_asks change)
  stamps : {line : ℕ} → line < line_count terms.layout → is_emptied h line ≡ true → (h.entry line).kind ≡ merge_kind →
      Does terms h (Store (stamp_address terms.layout (h.entry line).node) terms.stamp)
  empties : {line : ℕ} → line < line_count terms.layout → is_emptied h line ≡ true →
      Does terms h (Store (numbered_address terms.layout line state_offset) empty_state)
  unstamps : {node : ℕ} → node < terms.layout.nodes → is_freed terms h node ≡ true →
      Does terms h (Store (stamp_address terms.layout node) 0)
  frees : {node : ℕ} → node < terms.layout.nodes → is_freed terms h node ≡ true →
      Does terms h (Store (status_address terms.layout node) 0)
  gives_back : Does terms h (Store (updater_address terms.layout) untaken_lock)

-- So it is of each action of a turn that was told these.
abbrev pub WorksDo : Type 0
WorksDo = (work : Work) (h : Heard) → IsWork work → HasHeard work.terms h work.tally work.at →
    Does work.terms h (work_asks work)
