-- What a turn does follows from what it was told.
use Rattle.std.proofs.Common.{◌≡◌, ℕ, ◌<◌, true, sym, subst, ap, ◌∙◌}
use Rattle.pm_words.specs.declared.layout.Layout.{Layout}
use Rattle.pm_words.specs.declared.action.Action.TheVariants.{Store}
use Rattle.pm_words.specs.Codes.{empty_state}
use Rattle.pm_words.specs.Offsets.{state_offset}
use Rattle.pm_alloc.specs.declared.gone.ReleaseAt.{ReleaseAt}
use Rattle.pm_alloc.specs.declared.gone.ReleaseAt.TheVariants as release_at
use Rattle.pm_alloc.specs.Gone.{stamp_address, release_at_asks}
use Rattle.smo_log.specs.declared.line.Entry.{Entry}
use Rattle.smo_log.specs.LogLines.{numbered_address}
use Rattle.updater.specs.declared.terms.Terms.{Terms}
use Rattle.updater.specs.declared.terms.Tally.{Tally}
use Rattle.updater.specs.declared.work.WorkAt.{WorkAt}
use Rattle.updater.specs.declared.work.WorkAt.TheVariants as at
use Rattle.updater.specs.Works.{work_at_asks, IsWorkAt}
use Rattle.updater.specs.Events.{Heard, is_freed, HasHeard}
use Rattle.updater.specs.Doings.{Does, loads, leads, stamps, empties, unstamps, frees, gives_back, WorksDo}
use Rattle.updater.proofs.WalkLoads.{walk_place}

module _ (t : Terms) (h : Heard) where
  releases : (l : Layout) (node : ℕ) (at : ReleaseAt) → l ≡ t.layout → node < t.layout.nodes → is_freed t h node ≡ true → Does t h (release_at_asks l node at)
  releases l node release_at.Stamp same within is = subst (λ (k : Layout). Does t h (release_at_asks k node release_at.Stamp)) (sym same) (unstamps within is)
  releases l node release_at.Status same within is = subst (λ (k : Layout). Does t h (release_at_asks k node release_at.Status)) (sym same) (frees within is)

  does_at : (tally : Tally) (at : WorkAt) → IsWorkAt t tally at → HasHeard t h tally at → Does t h (work_at_asks t at)
  does_at tally (at.State line) here heard = loads
  does_at tally (at.Reading read) here heard = loads
  does_at tally (at.Landing line entry floor) here heard = loads
  does_at tally (at.Walking line entry walk) here heard = let place = walk_place walk here.2.sound in subst (Does t h) (sym place.loads) loads
  does_at tally (at.Seeing line entry found) here heard = loads
  does_at tally (at.Setting line entry set) here heard = leads set.change here.0.within heard.1 here.3 (here.4 ∙ ap (λ (e : Entry). e.anchor) heard.2) heard.3
  does_at tally (at.Unsetting line entry unset) here heard = leads unset.change here.0.within heard.1 here.3 (here.4 ∙ ap (λ (e : Entry). e.anchor) heard.2) heard.3
  does_at tally (at.Stamping line entry) here heard =
      subst (λ (e : Entry). Does t h (Store (stamp_address t.layout e.node) t.stamp)) (sym heard.2) (stamps here.0.within heard.1 (ap (λ (e : Entry). e.kind) (sym heard.2) ∙ heard.3))
  does_at tally (at.Clearing clear) here heard =
      subst (λ (k : Layout). Does t h (Store (numbered_address k clear.line state_offset) empty_state)) (sym here.2) (empties here.0.within heard.1)
  does_at tally (at.Status node) here heard = loads
  does_at tally (at.Stamp node) here heard = loads
  does_at tally (at.Version node) here heard = loads
  does_at tally (at.Releasing release) here heard = releases release.layout release.node release.at here.2 here.0.within heard.1
  does_at tally (at.Counting node none) here heard = loads
  does_at tally (at.Leaving none) here heard = gives_back

pub works_do : WorksDo
works_do work h sound heard = does_at work.terms h work.tally work.at sound.here heard
