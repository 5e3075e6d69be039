-- Each turn of the machine keeps what holds of a turn that is alone, and its last one leaves what it is to leave.
use Rattle.std.proofs.Common.{◌≡◌, ◌≢◌, ℕ, ◌≤◌, ◌⊎◌, inl, inr, List, refl, sym, subst, ap, ◌∙◌, arith}
use mathlib.Core.Option.{some}
use lib.ListN.{get_elem?}
use Rattle.pm_words.specs.declared.layout.Layout.{Layout}
use Rattle.pm_words.specs.declared.action.Action.{Action}
use Rattle.pm_words.specs.declared.machine.Turn.{Turn}
use Rattle.pm_words.specs.declared.machine.Turn.TheVariants.{Go, Done}
use Rattle.pm_words.specs.Locations.{Volatile, Cached}
use Rattle.pm_words.specs.Rows.{acted, got}
use Rattle.pm_words.specs.Offsets.{version_offset, state_offset, stamp_offset}
use Rattle.version_lock.specs.Versions.{is_worn_word}
use Rattle.call_stages.specs.Stages.{Idle}
use Rattle.call_stages.specs.Watches.{Nothing}
use Rattle.data_list.specs.declared.target.Target.{Target}
use Rattle.data_list.specs.declared.target.Walked.TheVariants as walked
use Rattle.data_list.specs.declared.target.Walked.{Walked}
use Rattle.data_list.specs.declared.walk.Walk.{Walk}
use Rattle.data_list.specs.Still.{Nodes, AreQuiet, StaysOnWay}
use Rattle.data_list.specs.Walks.{walk_turned}
use Rattle.index_law.specs.Facts.{Facts}
use Rattle.index_law.specs.Worlds.{World, Party, facts}
use Rattle.index_law.specs.Lawful.{Each}
use Rattle.index_law.specs.Whole.{Whole}
use Rattle.index_law.proofs.Parties.{at_set, set_here}
use Rattle.index_law.proofs.Rows.{version_in-here, status_in-here}
use Rattle.lone_call_law.specs.There.{nodes_in}
use Rattle.pm_alloc.specs.declared.gone.ReleaseAt.{ReleaseAt}
use Rattle.pm_alloc.specs.declared.gone.ReleaseAt.TheVariants as release_at
use Rattle.smo_log.specs.declared.line.Entry.{Entry}
use Rattle.index_layer_law.specs.updater_row_law.specs.Columns.{line_count, line_word, node_field}
use Rattle.index_layer_law.specs.updater_row_law.specs.RowStages.{Resting}
use Rattle.index_layer_law.specs.updater_row_law.specs.Turnings.{Turning, TurnFoot}
use Rattle.index_layer_law.specs.updater_row_law.proofs.RowColumns.{column-here}
use Rattle.updater.specs.declared.terms.Terms.{Terms}
use Rattle.updater.specs.declared.terms.Tally.{Tally}
use Rattle.updater.specs.declared.terms.Turned.{Turned}
use Rattle.updater.specs.declared.work.Work.{Work}
use Rattle.updater.specs.declared.work.WorkAt.{WorkAt}
use Rattle.updater.specs.declared.work.WorkAt.TheVariants as at
use Rattle.updater.specs.Laws.{WorkStays}
use Rattle.updater.specs.Works.{IsWorkAt, work_at_asks, work_asks, work_turned, work_takes}
use Rattle.updater.specs.Events.{HasHeard}
use Rattle.updater.specs.Steps.{row_terms, release_stage, work_at_stage}
use Rattle.updater.specs.Watches.{turning_at, work_turning, turning_after}
use Rattle.updater.proofs.FootLaw.{works_are_feet}
use Rattle.updater.proofs.WorkSound.{works_stay_sound}
use Rattle.index_layer_law.specs.Turnings.{AreRestingBut, ghosts_of}
use Rattle.index_layer_law.specs.Layers.{Layered, IsLayered}
use Rattle.index_layer_law.specs.Laws.{IsAtRest, turned}
use Rattle.index_layer_law.proofs.FactTies.{version_tie}
use Rattle.index_layer_law.proofs.LayerCover.{layer_is_covered}
use Rattle.lone_updater_law.specs.LoneTurns.{KeepsNodes}
use Rattle.lone_updater_law.specs.Marks.{Marks, marks_in, HasDone}
use Rattle.lone_updater_law.specs.Laws.{terms_in, WalkStands, heard_from, LoneTurning, GoesOn, TurnGoes, TurnsGo}
use Rattle.lone_updater_law.proofs.Hearing.{IsSo, GoesOrFinds, HearsAfter, hears_after}
use Rattle.lone_updater_law.proofs.MarkSteps.{Handles, done_after}
use Rattle.lone_updater_law.proofs.Acting.{turns_act}
use Rattle.lone_updater_law.proofs.TurnSteps.{marks_tie, past_lines, each_state, none_held, walks_are_quiet, can_act}
use Rattle.lone_updater_law.proofs.TurnSteps.{layered_after, lawful_row, nodes_kept, law_after}
use Rattle.lone_updater_law.proofs.WalkStays.{GoesAfter, walk_goes, walk_after}

-- What it knows at each state.
record Knows (before : World) (stamp release : ℕ) (terms : Terms) (words : List ℕ) (at : WorkAt) (x : ℕ) : Type 0 where
  so : IsSo before stamp release at x
  busy : work_at_stage terms at ≢ Resting

module _ (before w : World) (stamp release : ℕ) (tally : Tally) (x : ℕ) (nodes : w.layout.nodes ≡ before.layout.nodes) (versions : (n : ℕ) → (facts w).version n ≡ (facts before).version n)
    (entry : Entry) (target : Target) (quiet : AreQuiet w.layout w.generation (nodes_in w.layout w.words)) where
  open w use {layout as l, words}

  abbrev t : Terms
  t = terms_in w stamp release

  goes_or_finds : (f : Nodes) (hops : ℕ) (key : List ℕ) (turn : Turn Walk Walked) → StaysOnWay w.layout f hops key turn → GoesOrFinds turn
  goes_or_finds f hops key (Go walk) way = tt
  goes_or_finds f hops key (Done (walked.Target found)) way = tt
  goes_or_finds f hops key (Done (walked.Again why)) way = way

  releasing : (at : ReleaseAt) (node : ℕ) → release_stage at node ≢ Resting
  releasing release_at.Stamp node = λ e. cc
  releasing release_at.Status node = λ e. cc

  knows : (at : WorkAt) → IsWorkAt t tally at → HasDone before stamp release (marks_in w) (work_at_stage t at) → HasHeard t (heard_from before stamp release entry target) tally at → WalkStands l words at
      → x ≡ got l words (work_at_asks t at) → Knows before stamp release t words at x
  knows (at.State line) here done heard walk told = record {
    so = told ∙ sym (column-here l words (line_count l) (λ k. Cached (line_word state_offset k)) line here.within) ∙ done.rest line (omega arith);
    busy = λ e. cc;
  }
  knows (at.Reading read) here done heard walk told = record { so = tt; busy = λ e. cc }
  knows (at.Landing line asked floor) here done heard walk told = record { so = tt; busy = λ e. cc }
  knows (at.Walking line asked walk) here done heard stands told = record {
    so = goes_or_finds (nodes_in l words) stands.0 walk.key (walk_turned walk x) (walk_goes t asked walk words x stands.0 here.2 quiet told stands.1);
    busy = λ e. cc;
  }
  knows (at.Seeing line asked found) here done heard walk told = record { so = told ∙ sym (version_in-here l words found.node here.2) ∙ sym walk; busy = λ e. cc }
  knows (at.Setting line asked set) here done heard walk told = record { so = tt; busy = λ e. cc }
  knows (at.Unsetting line asked unset) here done heard walk told = record { so = tt; busy = λ e. cc }
  knows (at.Stamping line asked) here done heard walk told = record { so = tt; busy = λ e. cc }
  knows (at.Clearing clear) here done heard walk told = record { so = tt; busy = λ e. cc }
  knows (at.Status node) here done heard walk told = record { so = told ∙ sym (status_in-here l words node here.within) ∙ (done.ahead node (omega arith)).status; busy = λ e. cc }
  knows (at.Stamp node) here done heard walk told =
      let ahead = done.ahead node (omega arith) in
      record { so = told ∙ sym (column-here l words l.nodes (λ k. Volatile k stamp_offset) node here.within) ∙ ahead.stamped (ahead.status ∙ heard.1); busy = λ e. cc }
  knows (at.Version node) here done heard walk told = record { so = told ∙ sym (version_in-here l words node here.within) ∙ versions node; busy = λ e. cc }
  knows (at.Releasing release) here done heard walk told = record { so = tt; busy = releasing release.at release.node }
  knows (at.Counting node none) here done heard walk told =
      record { so = told ∙ sym (status_in-here l words node here.0) ∙ (done.left node (omega (arith, nodes, here.0))).status; busy = λ e. cc }
  knows (at.Leaving none) here done heard walk told = record { so = tt; busy = λ e. cc }

module _ (before : Layered) (stamp release i : ℕ) (tally : Tally) (state : WorkAt) (z : Layered) (x : ℕ) (is : LoneTurning before stamp release i (record { terms = terms_in z.whole.world stamp release; tally = tally; at = state }) z)
    (told : x ≡ got z.whole.world.layout z.whole.world.words (work_at_asks (terms_in z.whole.world stamp release) state)) where
  abbrev w : World
  w = z.whole.world

  abbrev terms : Terms
  terms = terms_in z.whole.world stamp release

  abbrev work : Work
  work = record { terms = terms_in z.whole.world stamp release; tally = tally; at = state }

  abbrev turning : Turning
  turning = work_turning (record { terms = terms_in z.whole.world stamp release; tally = tally; at = state })

  abbrev asks : Action
  asks = work_at_asks (terms_in z.whole.world stamp release) state

  abbrev after : List ℕ
  after = acted z.whole.world.layout z.whole.world.words (work_at_asks (terms_in z.whole.world stamp release) state)

  some_stamp : stamp ≢ 0
  some_stamp none = let some : 1 ≤ stamp = is.sound.terms.stamp in omega arith

  layouts : w.layout ≡ before.whole.world.layout
  layouts = ap (λ (q : Whole). q.world.layout) is.kept.whole

  node_count : w.layout.nodes ≡ before.whole.world.layout.nodes
  node_count = ap (λ (k : Layout). k.nodes) layouts

  same_terms : terms ≡ terms_in before.whole.world stamp release
  same_terms = ap (λ (q : Whole). terms_in q.world stamp release) is.kept.whole

  idle : Each (λ p. p.stage ≡ Idle) w.parties
  idle = subst (λ (parties : List Party). Each (λ p. p.stage ≡ Idle) parties) (sym (ap (λ (q : Whole). q.world.parties) is.kept.whole)) is.began.parties

  quiet : AreQuiet w.layout w.generation (nodes_in w.layout w.words)
  quiet = walks_are_quiet z is.layered idle

  known : Knows before.whole.world stamp release terms w.words state x
  known = knows before.whole.world w stamp release tally x node_count (λ n. ap (λ (f : Facts). f.version n) is.kept.facts) is.hears.entry is.hears.target quiet state is.sound.here is.done is.hears.heard is.walk told

  takes : work_takes work x
  takes = (turns_act z i work x is.layered is.there refl is.small is.sound told).takes

  resting : AreRestingBut z.turns i
  resting j u at_u other = (is.others j u at_u other).stage

  -- the index after the step, in which its turn is that
  module _ (next : Turning) (foot : TurnFoot (row_terms terms) turning asks x next) (handles : Handles (work_at_stage terms state) next.stage) where
    abbrev later : Layered
    later = turned z i asks next

    layered_then : IsLayered later
    layered_then = layered_after before z i turning next asks x is.layered is.there resting is.small foot told

    kept_then : KeepsNodes before later
    kept_then = nodes_kept before z i turning next asks x is.layered is.there resting is.small foot told is.kept

    others_then : (j : ℕ) (u : Turning) → get_elem? later.turns j ≡ some u → ((j ≡ i) × (next ≡ u)) ⊎ ((j ≢ i) × IsAtRest u)
    others_then j u at_u = elim (at_set z.turns i j next u at_u) [ inl mine ↦ inl mine | inr other ↦ inr (other.0, is.others j u other.1 other.0) ]

    worn_same : (n : ℕ) → is_worn_word (node_field w.layout w.words version_offset n) w.generation ≡ is_worn_word ((facts before.whole.world).version n) before.whole.world.generation
    worn_same n =
        ap (λ v. is_worn_word v w.generation) (version_tie w.layout w.words n ∙ ap (λ (f : Facts). f.version n) is.kept.facts)
        ∙ ap (is_worn_word ((facts before.whole.world).version n)) (ap (λ (q : Whole). q.world.generation) is.kept.whole)

    done_then : HasDone before.whole.world stamp release (marks_in later.whole.world) next.stage
    unfolding layered_then
    done_then =
        subst (λ (m : Marks). HasDone before.whole.world stamp release m next.stage) (sym (marks_tie later.whole.world))
        (done_after before.whole.world stamp release w.layout w.generation some_stamp node_count (each_state before is.began)
        (λ j past. past_lines before.whole.world j (subst (λ (k : Layout). line_count k ≤ j) layouts past))
        (ghosts_of w is.layered.holder) (ghosts_of later.whole.world layered_then.holder) w.words is.layered.whole.joint.lawful.row worn_same foot.row known.busy handles told
        (lawful_row before z i turning next asks x is.layered is.there resting is.small foot told)
        (law_after before z i turning next asks x is.layered is.there resting is.small foot told, none_held later.whole.world layered_then.whole.joint.lawful idle)
        (subst (λ (m : Marks). HasDone before.whole.world stamp release m (work_at_stage terms state)) (marks_tie w) is.done))

  goes_to : (turn : Turn Work Turned) → work_turned work x ≡ turn → TurnFoot (row_terms terms) turning asks x (turning_after terms turn) → WorkStays terms turn → GoesAfter work after (work_at_stage terms state) turn
      → HearsAfter before.whole.world stamp release terms turn → GoesOn before stamp release i turn (turned z i asks (turning_after terms turn))
  goes_to (Go next) same foot stays goes hears = record {
    began = is.began;
    layered = layered_then (work_turning next) foot goes.1;
    kept = kept_then (work_turning next) foot goes.1;
    there = set_here z.turns i (work_turning next) turning is.there;
    others = λ j u at_u other. elim (others_then (work_turning next) foot goes.1 j u at_u) [ inl mine ↦ absurd (other mine.0) | inr rests ↦ rests.1 ];
    terms = stays.1;
    small = is.small;
    sound = stays.0;
    done = done_then (work_turning next) foot goes.1;
    walk = goes.0;
    hears = hears stays.1;
  }
  goes_to (Done answer) same foot stays goes hears = record {
    idle = record {
      layered = layered_then rests foot goes;
      parties = idle;
      turns = λ j u at_u. elim (others_then rests foot goes j u at_u) [
        | inl mine ↦ subst IsAtRest mine.1 (record { stage = refl; stamp = some_stamp; watch = refl })
        | inr other ↦ other.1
      ];
      lines = λ j here. inl (done.empty j);
    };
    kept = kept_then rests foot goes;
    empty = done.empty;
    statuses = λ n here. (done.left n here).status;
    stamps = λ n here. (done.left n here).stamped;
    leads = λ key node none. (layer_is_covered later_z (layered_then rests foot goes)).cached key node (λ has. has.state (done.empty has.line));
    applied = hears.applied;
    left = hears.left;
    freed = hears.freed;
    none_free = (
      λ yes n here free. hears.none_free.0 yes n here (sym (done.left n here).status ∙ free),
      λ none. hears.none_free.1 (λ n here free. none n here ((done.left n here).status ∙ free)),
    );
  }
    where
      rests : Turning
      rests = turning_at (row_terms (terms_in z.whole.world stamp release)) Resting Nothing

      later_z : Layered
      later_z = turned z i (work_at_asks (terms_in z.whole.world stamp release) state) (turning_at (row_terms (terms_in z.whole.world stamp release)) Resting Nothing)

      done : HasDone before.whole.world stamp release (marks_in (turned z i (work_at_asks (terms_in z.whole.world stamp release) state) (turning_at (row_terms (terms_in z.whole.world stamp release)) Resting Nothing)).whole.world) Resting
      done = done_then (turning_at (row_terms (terms_in z.whole.world stamp release)) Resting Nothing) foot goes

  goes : TurnGoes before stamp release i work z x
  goes =
      let foot = works_are_feet work x takes in
      record {
        can = can_act before z i turning (turning_after terms (work_turned work x)) asks x is.layered is.there resting is.small foot told;
        takes = takes;
        on = goes_to (work_turned work x) refl foot (works_stay_sound work x takes)
            (walk_after work state w.words x is.sound.here (works_stay_sound work x takes) quiet told is.walk)
            (hears_after before.whole.world stamp release work x some_stamp same_terms takes known.so is.hears);
      }

pub turns_go : TurnsGo
turns_go before stamp release i work z x is told =
    subst (λ (t : Terms). Goes (record { terms = t; tally = work.tally; at = work.at })) (sym is.terms) (λ is told. goes before stamp release i work.tally work.at z x is told) is told
  where
    Goes : Work → Type 0
    Goes work = LoneTurning before stamp release i work z → x ≡ got z.whole.world.layout z.whole.world.words (work_asks work) → TurnGoes before stamp release i work z x
