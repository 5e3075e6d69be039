-- A step of a turn with no call in flight: it keeps the index with its search layer, and the words of the nodes.
use Rattle.std.proofs.Common.{◌≡◌, ℕ, ◌^◌, ◌<◌, ◌≤◌, ◌⊎◌, not, Bool, true, false, cond, List, inl, inr, refl, sym}
use Rattle.std.proofs.Common.{subst, ap, ◌∙◌, arith}
use Rattle.std.specs.Prelude.{nat_lt}
use Rattle.std.proofs.lemmas.Bool.{cases_lt, ltb-true, le-ltb}
use mathlib.Core.Option.{some}
use lib.ListN.{get_elem?}
use Rattle.pm_words.specs.declared.layout.Layout.{Layout}
use Rattle.pm_words.specs.declared.action.Action.{Action}
use Rattle.pm_words.specs.Locations.{Cached, at}
use Rattle.pm_words.specs.Rows.{IsRow, CanAct, acted, got}
use Rattle.pm_words.proofs.Kept.{acted_row}
use Rattle.pm_words.specs.Codes.{empty_state, ready_state}
use Rattle.pm_words.specs.Offsets.{version_offset, state_offset}
use Rattle.version_lock.specs.Versions.{is_free_word}
use Rattle.version_lock.proofs.WordTests.{free_is}
use Rattle.call_stages.specs.Stages.{Idle}
use Rattle.call_stages.specs.Watches.{Nothing}
use Rattle.data_list.specs.Still.{AreQuiet}
use Rattle.index_law.specs.Facts.{Facts, version_in}
use Rattle.index_law.specs.Worlds.{World, facts}
use Rattle.index_law.specs.Lawful.{Lawful, Each}
use Rattle.index_law.specs.Whole.{Whole}
use Rattle.index_law.proofs.Parties.{set_here, set_else}
use Rattle.index_law.proofs.Starts.{idle_law}
use Rattle.lone_call_law.specs.There.{nodes_in}
use Rattle.lone_call_law.proofs.There.{idle_is_quiet}
use Rattle.updater_law.specs.Facts.{TurnFacts}
use Rattle.updater_law.specs.Lawful.{TurnLawful}
use Rattle.index_layer_law.specs.updater_row_law.specs.Columns.{RowTerms, Ghosts, line_count, line_word, line_field}
use Rattle.index_layer_law.specs.updater_row_law.specs.Columns.{node_field, facts_in}
use Rattle.index_layer_law.specs.updater_row_law.specs.Columns as rows
use Rattle.index_layer_law.specs.updater_row_law.specs.RowStages.{Resting, turn_stage}
use Rattle.index_layer_law.specs.updater_row_law.specs.RowLaw.{RowLawful}
use Rattle.index_layer_law.specs.updater_row_law.specs.Turnings.{Turning, TurnFoot}
use Rattle.index_layer_law.specs.Turnings.{terms_of, AreRestingBut, ghosts_of}
use Rattle.index_layer_law.specs.Layers.{Layered, IsLayered}
use Rattle.index_layer_law.specs.Laws.{turned}
use Rattle.index_layer_law.proofs.FactTies.{version_tie, facts_tie}
use Rattle.index_layer_law.proofs.TurnKept.{Keeps, touches_keep}
use Rattle.index_layer_law.proofs.TurnSteps.{turn_step_keeps}
use Rattle.index_layer_law.proofs.TurnTouches.{touched}
use Rattle.lone_updater_law.specs.LoneTurns.{line_state, IsIdle, KeepsNodes}
use Rattle.lone_updater_law.specs.Marks.{marks_in}
use Rattle.lone_updater_law.proofs.MarkSteps.{row_marks}

-- the marks of the index, in the words of the law of turns
pub marks_tie : (w : World) → marks_in w ≡ row_marks w.layout w.words
marks_tie w =
    let t : Turning = record { stamp = 0; release = 0; stage = Resting; watch = Nothing } in
    ap (λ (f : TurnFacts). record { state = f.line.state; status = f.status; stamp = f.stamp }) (sym (facts_tie w (λ n. 0) t))

-- past the last line there is none
pub past_lines : (w : World) (j : ℕ) → line_count w.layout ≤ j → line_state w j ≡ empty_state
unfolding rows.column
past_lines w j past = ap (λ b. cond b (at w.layout w.words (Cached (line_word state_offset j))) 0) (le-ltb j (line_count w.layout) past)

pub each_state : (z : Layered) → IsIdle z → (j : ℕ) → (line_state z.whole.world j ≡ empty_state) ⊎ (line_state z.whole.world j ≡ ready_state)
each_state z is j = elim (cases_lt j (line_count z.whole.world.layout)) [ inl here ↦ is.lines j here | inr past ↦ inl (past_lines z.whole.world j (omega arith)) ]

no_version : (l : Layout) (words : List ℕ) (n : ℕ) → nat_lt n l.nodes ≡ false → version_in l words n ≡ 0
unfolding version_in
no_version l words n past = rw past refl

-- with all parties idle no node is held
pub none_held : (w : World) → Lawful w → Each (λ p. p.stage ≡ Idle) w.parties → (n : ℕ) → not (is_free_word (node_field w.layout w.words version_offset n) w.generation) ≡ false
none_held w lawful idle n = ap (λ v. not (is_free_word v w.generation)) (version_tie w.layout w.words n) ∙ ap not (by (nat_lt n w.layout.nodes) refl)
  where
    by : (b : Bool) → nat_lt n w.layout.nodes ≡ b → is_free_word (version_in w.layout w.words n) w.generation ≡ true
    by true e = free_is (version_in w.layout w.words n) w.generation ((idle_law w lawful idle).free n (ltb-true n w.layout.nodes e))
    by false e = subst (λ v. is_free_word v w.generation ≡ true) (sym (no_version w.layout w.words n e)) (free_is 0 w.generation (inr refl))

-- and walks come to their targets
pub walks_are_quiet : (z : Layered) → IsLayered z → Each (λ p. p.stage ≡ Idle) z.whole.world.parties
    → AreQuiet z.whole.world.layout z.whole.world.generation (nodes_in z.whole.world.layout z.whole.world.words)
walks_are_quiet z is idle = idle_is_quiet (record { world = z.whole.world; debts = z.whole.debts }) is.whole.traced idle

-- A step of the turn that the party i makes, beside which all rest.
module _ (before z : Layered) (i : ℕ) (t next : Turning) (a : Action) (x : ℕ) (is : IsLayered z) (there : get_elem? z.turns i ≡ some t) (rest : AreRestingBut z.turns i) (small : t.stamp < 2 ^ 64)
    (foot : TurnFoot (terms_of z.whole.world t) t a x next) (told : x ≡ got z.whole.world.layout z.whole.world.words a) where
  abbrev w : World
  w = z.whole.world

  abbrev after : List ℕ
  after = acted z.whole.world.layout z.whole.world.words a

  abbrev later : Layered
  later = turned z i a next

  pub can_act : CanAct w.layout w.words a
  can_act = (turn_step_keeps z i t next a x is there small foot told).0

  pub layered_after : IsLayered later
  layered_after = (turn_step_keeps z i t next a x is there small foot told).1

  pub lawful_row : RowLawful (terms_of w t) (ghosts_of w is.holder) w.words t.stage
  lawful_row = is.rows i t there rest

  row : IsRow w.layout w.words
  row = is.whole.joint.lawful.row

  keeps : Keeps z.whole is.holder after
  keeps = touches_keep z.whole is.holder t is.whole is.tended after (acted_row w.layout w.words a row can_act)
      (touched (terms_of w t) (ghosts_of w is.holder) w.words row foot.row told lawful_row (λ free. is.lock free i t there)).touches

  -- the nodes keep their words
  pub nodes_kept : KeepsNodes before z → KeepsNodes before later
  nodes_kept was = record {
    whole = ap (λ (q : Whole). record q { world = record (q.world) { words = after } }) was.whole;
    facts = same ∙ ap (λ (f : Facts). record f { status = (facts later.whole.world).status }) was.facts;
  }
    where
      same : facts later.whole.world ≡ record (facts w) { status = (facts later.whole.world).status }
      same = λ k. record { version = keeps.version k; status = (facts later.whole.world).status; now = keeps.now k; list = keeps.list k; base = w.base; history = w.history }

  -- and what the law of turns says of the row then
  pub law_after : TurnLawful (rows.terms_of (terms_of w t)) (facts_in (terms_of w t) (ghosts_of later.whole.world layered_after.holder) after) (turn_stage next.stage)
  law_after =
      let terms : Path RowTerms (terms_of later.whole.world next) (terms_of w t) = λ k. record { layout = w.layout; generation = w.generation; stamp = foot.stamp k; release = foot.release k } in
      let still : AreRestingBut later.turns i = (λ j u at_u other. rest j u (sym (set_else z.turns i j next other) ∙ at_u) other) in
      (subst (λ (r : RowTerms). RowLawful r (ghosts_of later.whole.world layered_after.holder) after next.stage) terms
      (layered_after.rows i next (set_here z.turns i next t there) still)).law
