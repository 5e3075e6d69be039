-- What a turn is told of the statuses of nodes, by which it answers whether it found none FREE.
use Rattle.std.proofs.Common.{◌≡◌, ◌≢◌, ◌↔◌, ℕ, ne_eqb, ◌+◌, ◌-◌, ◌<◌, ◌==◌, Bool, true, false, cond, ltb, not, ◌&&◌}
use Rattle.std.proofs.Common.{List, [], ◌∷◌, ◌++◌, length, refl, sym, ap, ◌∙◌, subst, arith, All}
use Rattle.std.proofs.lemmas.Bool.{ltb-true, ltb-false}
use Rattle.std.proofs.lemmas.List.Elements.{All-cons, All-head, All-nil, All-tail}
use Rattle.pm_words.specs.Codes.{free_status, gone_status, ready_state, merge_kind, untaken_lock}
use Rattle.pm_words.specs.declared.layout.Layout.{Layout}
use Rattle.pm_words.specs.declared.machine.Turn.{Turn}
use Rattle.pm_words.specs.declared.machine.Turn.TheVariants.{Go, Done}
use Rattle.version_lock.specs.Versions.{is_worn_word}
use Rattle.data_list.specs.declared.target.Walked.{Walked}
use Rattle.data_list.specs.declared.target.Walked.TheVariants as walked
use Rattle.data_list.specs.declared.walk.Walk.{Walk}
use Rattle.data_list.specs.Walks.{walk_turned}
use Rattle.pm_alloc.specs.declared.gone.Release.{Release}
use Rattle.pm_alloc.specs.Gone.{release_from, release_turned}
use Rattle.tree_floor.specs.declared.floor.Floor.{Floor}
use Rattle.tree_floor.specs.Floors.{floor_turned}
use Rattle.node_ops.specs.tree_update.specs.declared.change.Ended.{Ended}
use Rattle.node_ops.specs.tree_update.specs.declared.set.Set.{Set}
use Rattle.node_ops.specs.tree_update.specs.declared.set.Unset.{Unset}
use Rattle.node_ops.specs.tree_update.specs.Sets.{set_starts, set_turned, unset_starts, unset_turned}
use Rattle.smo_log.specs.declared.line.Entry.{Entry}
use Rattle.smo_log.specs.declared.read.LineSeen.{LineSeen}
use Rattle.smo_log.specs.declared.read.ReadLine.{ReadLine}
use Rattle.smo_log.specs.Reads.{read_turned}
use Rattle.updater.specs.updater_row_law.specs.Columns.{line_count}
use Rattle.updater.specs.updater_row_law.specs.RowStages.{are_same}
use Rattle.updater.specs.declared.making.MakeTurn.{MakeTurn}
use Rattle.updater.specs.declared.making.MakeTurn.TheVariants.{Working}
use Rattle.updater.specs.declared.making.TurnReply.{TurnReply}
use Rattle.updater.specs.declared.making.TurnReply.TheVariants as reply
use Rattle.updater.specs.declared.terms.Found.{Found}
use Rattle.updater.specs.declared.terms.Turned.{Turned}
use Rattle.updater.specs.declared.work.Work.{Work}
use Rattle.updater.specs.declared.work.WorkAt.{WorkAt}
use Rattle.updater.specs.declared.work.WorkAt.TheVariants as at
use Rattle.updater.specs.Makings.{making_turned, worked}
use Rattle.updater.specs.Works.{after_line, reads_fields, saw_state, changes, clears, changed, after_node, saw_status}
use Rattle.updater.specs.Works.{allows, saw_stamp, saw_version, after_count, on, leaves, emptied, walk_ended}
use Rattle.updater.specs.Works.{saw_again, has_read, has_landed, has_walked, has_set, has_unset, has_released}
use Rattle.updater.specs.Works.{work_at_turned, work_from}
use Rattle.pac_index.specs.declared.rule.Member.{Member}
use Rattle.pac_index.specs.Calls.{run_of}
use Rattle.pac_index.specs.Turns.{FoundLock, FoundStatuses, TellsOfFree, turn_in}

abbrev AreNone : List ℕ → Type 0
AreNone statuses = All (λ (status : ℕ). status ≢ free_status) statuses

told_before : (l : Layout) (free : Bool) (x : ℕ) (xs : List ℕ) → FoundStatuses l free xs → FoundStatuses l free (x ∷ xs)
told_before l free x xs found = record {
  before = x ∷ found.before;
  statuses = found.statuses;
  rest = found.rest;
  is = ap (λ (ys : List ℕ). x ∷ ys) found.is;
  all = found.all;
  none = found.none;
}

-- The numbers begin with the statuses from this node on, behind others of which none was FREE, or some.
record Counts (l : Layout) (free : Bool) (node : ℕ) (none : Bool) (xs : List ℕ) : Type 0 where
  statuses : List ℕ
  rest : List ℕ
  is : xs ≡ statuses ++ rest
  all : node < l.nodes → node + length statuses ≡ l.nodes
  tells : (free ≡ true) ↔ ((none ≡ true) × AreNone statuses)

-- what is still told of a turn that answers so
abbrev IsToldAt : Layout → Bool → WorkAt → List ℕ → Type 0
IsToldAt l free (at.Counting node none) xs = Counts l free node none xs
IsToldAt l free (at.Leaving none) xs = none ≡ free
IsToldAt l free _ xs = FoundStatuses l free xs

abbrev Finds : Layout → Bool → WorkAt → Type 0
Finds l free at = (xs : List ℕ) → IsToldAt l free at xs → FoundStatuses l free xs

abbrev Leads : Layout → Bool → Work → Type 0
Leads l free work = (work.terms.layout ≡ l) × Finds l free work.at

and_both : (a b : Bool) → (a && b) ≡ true → (a ≡ true) × (b ≡ true)
and_both true b is = (refl, is)
and_both false b is = absurd (cc)

still_none : (x : ℕ) (none : Bool) → ((none && not (x == free_status)) ≡ true) ↔ ((none ≡ true) × (x ≢ free_status))
still_none x none = (
  (λ is. let both = and_both none (not (x == free_status)) is in (both.0, λ (here : x ≡ free_status). let no = both.1 in absurd (cc))),
  (λ (both : (none ≡ true) × (x ≢ free_status)). let first = both.0 in let second = ne_eqb x free_status both.1 in cc),
)

module _ (free : Bool) (work : Work) (some : 0 < work.terms.layout.nodes) where
  abbrev l : Layout
  l = work.terms.layout

  from_first : Finds l free (at.Counting 0 true)
  from_first xs told = record {
    before = [];
    statuses = told.statuses;
    rest = told.rest;
    is = told.is;
    all = let all = told.all some in omega arith;
    none = ((λ yes. (told.tells.0 yes).1), λ none. told.tells.1 (refl, none));
  }

  line_next : (line : ℕ) → Finds l free (after_line work.terms line)
  line_next line = elim (ltb (line + 1) (line_count l)) as (λ b. Finds l free (cond b (at.State (line + 1)) (at.Status 0))) [ true ↦ λ xs told. told | false ↦ λ xs told. told ]

  node_next : (node : ℕ) → Finds l free (after_node work.terms node)
  node_next node = elim (ltb (node + 1) l.nodes) as (λ b. Finds l free (cond b (at.Status (node + 1)) (at.Counting 0 true))) [ true ↦ λ xs told. told | false ↦ from_first ]

  state_next : (line x : ℕ) → Finds l free (saw_state work.terms line x)
  state_next line x = elim (x == ready_state) as (λ b. Finds l free (cond b (at.Reading (reads_fields l line x)) (after_line work.terms line))) [ true ↦ λ xs told. told | false ↦ line_next line ]

  read_next : (line : ℕ) (turn : Turn ReadLine LineSeen) → Leads l free (has_read work line turn)
  read_next line (Go read) = (refl, λ xs told. told)
  read_next line (Done seen) = (refl, λ xs told. told)

  land_next : (line : ℕ) (entry : Entry) (turn : Turn Floor ℕ) → Leads l free (has_landed work line entry turn)
  land_next line entry (Go floor) = (refl, λ xs told. told)
  land_next line entry (Done hint) = (refl, λ xs told. told)

  walked_next : (line : ℕ) (entry : Entry) (answer : Walked) → Leads l free (walk_ended work line entry answer)
  walked_next line entry (walked.Target target) = (refl, λ xs told. told)
  walked_next line entry (walked.Again why) = (refl, line_next line)

  walk_next : (line : ℕ) (entry : Entry) (turn : Turn Walk Walked) → Leads l free (has_walked work line entry turn)
  walk_next line entry (Go walk) = (refl, λ xs told. told)
  walk_next line entry (Done answer) = walked_next line entry answer

  change_next : (line : ℕ) (entry : Entry) (found : Found) → Finds l free (changes work.terms line entry found)
  change_next line entry found = elim (are_same found.low entry.anchor) as (λ b. Finds l free (cond b (at.Setting line entry (set_starts l entry.anchor found.node)) (at.Unsetting line entry (unset_starts l entry.anchor)))) [ true ↦ λ xs told. told | false ↦ λ xs told. told ]

  again_next : (line : ℕ) (entry : Entry) (found : Found) (x : ℕ) → Leads l free (saw_again work line entry found x)
  again_next line entry found x = elim (x == found.version) as (λ b. Leads l free (cond b (on work (changes work.terms line entry found)) (leaves work line))) [ true ↦ (refl, change_next line entry found) | false ↦ (refl, line_next line) ]

  changed_next : (line : ℕ) (entry : Entry) → Finds l free (changed work.terms line entry)
  changed_next line entry = elim (entry.kind == merge_kind) as (λ b. Finds l free (cond b (at.Stamping line entry) (clears work.terms line))) [ true ↦ λ xs told. told | false ↦ λ xs told. told ]

  set_next : (line : ℕ) (entry : Entry) (turn : Turn Set Ended) → Leads l free (has_set work line entry turn)
  set_next line entry (Go set) = (refl, λ xs told. told)
  set_next line entry (Done answer) = (refl, changed_next line entry)

  unset_next : (line : ℕ) (entry : Entry) (turn : Turn Unset Ended) → Leads l free (has_unset work line entry turn)
  unset_next line entry (Go unset) = (refl, λ xs told. told)
  unset_next line entry (Done answer) = (refl, changed_next line entry)

  status_next : (node x : ℕ) → Finds l free (saw_status work.terms node x)
  status_next node x = elim (x == gone_status) as (λ b. Finds l free (cond b (at.Stamp node) (after_node work.terms node))) [ true ↦ λ xs told. told | false ↦ node_next node ]

  stamp_next : (node x : ℕ) → Finds l free (saw_stamp work.terms node x)
  stamp_next node x = elim (allows work.terms x) as (λ b. Finds l free (cond b (at.Version node) (after_node work.terms node))) [ true ↦ λ xs told. told | false ↦ node_next node ]

  version_next : (node x : ℕ) → Finds l free (saw_version work.terms node x)
  version_next node x = elim (is_worn_word x work.terms.generation) as (λ b. Finds l free (cond b (after_node work.terms node) (at.Releasing (release_from l node)))) [ true ↦ node_next node | false ↦ λ xs told. told ]

  released_next : (node : ℕ) (turn : Turn Release (Unit {0})) → Leads l free (has_released work node turn)
  released_next node (Go release) = (refl, λ xs told. told)
  released_next node (Done answer) = (refl, node_next node)

  -- behind one status more
  tells_more : (x : ℕ) (none : Bool) (statuses : List ℕ) → (free ≡ true) ↔ (((none && not (x == free_status)) ≡ true) × AreNone statuses) → (free ≡ true) ↔ ((none ≡ true) × AreNone (x ∷ statuses))
  tells_more x none statuses tells = (
    (λ yes.
        let both = tells.0 yes in
        let seen = (still_none x none).0 both.0 in
        (seen.0, All-cons (λ (status : ℕ). status ≢ free_status) x statuses seen.1 both.1)),
    (λ (all : (none ≡ true) × AreNone (x ∷ statuses)). tells.1 ((still_none x none).1 (all.0, All-head (λ (status : ℕ). status ≢ free_status) x statuses all.1), All-tail (λ (status : ℕ). status ≢ free_status) x statuses all.1)),
  )

  counted_next : (node x : ℕ) (none : Bool) (xs : List ℕ) → IsToldAt l free (after_count work.terms node (none && not (x == free_status))) xs → Counts l free node none (x ∷ xs)
  counted_next node x none xs =
      let none' = none && not (x == free_status) in
      elim (ltb (node + 1) l.nodes) as (λ b. ltb (node + 1) l.nodes ≡ b → IsToldAt l free (cond b (at.Counting (node + 1) none') (at.Leaving none')) xs → Counts l free node none (x ∷ xs)) [
        | true ↦ λ more told. record {
          statuses = x ∷ told.statuses;
          rest = told.rest;
          is = ap (λ (ys : List ℕ). x ∷ ys) told.is;
          all = λ within. let all = told.all (ltb-true _ _ more) in omega arith;
          tells = tells_more x none told.statuses told.tells;
        }
        | false ↦ λ last told. record {
          statuses = x ∷ [];
          rest = xs;
          is = refl;
          all = λ within. let end = ltb-false _ _ last in omega arith;
          tells = tells_more x none [] ((λ yes. (told ∙ yes, All-nil (λ (status : ℕ). status ≢ free_status))), λ both. sym told ∙ both.0);
        }
      ] refl

abbrev EndsTurned : Turn MakeTurn TurnReply → List ℕ → Turned → Type 0
EndsTurned turn xs answer = run_of making_turned turn xs ≡ Done (reply.Turned answer)

-- by what is told from its next state on
module _ (most : Layout) (answer : Turned) (some : 0 < most.nodes) (x : ℕ) (xs : List ℕ)
    (rec : (w : Work) → w.terms.layout ≡ most → EndsTurned (Go (Working w)) xs answer → IsToldAt most answer.none_free w.at xs) (work : Work) (same : work.terms.layout ≡ most) where
  here : 0 < work.terms.layout.nodes
  here = subst (λ (k : Layout). 0 < k.nodes) (sym same) some

  next : (w : Work) → Leads work.terms.layout answer.none_free w → EndsTurned (Go (Working w)) xs answer → FoundStatuses most answer.none_free (x ∷ xs)
  next w leads ran = told_before most answer.none_free x xs (subst (λ (k : Layout). IsToldAt k answer.none_free w.at xs → FoundStatuses k answer.none_free xs) same (leads.1 xs) (rec w (leads.0 ∙ same) ran))

  step : (at : WorkAt) → EndsTurned (worked (work_at_turned work at x)) xs answer → IsToldAt most answer.none_free at (x ∷ xs)
  step (at.State line) ran = next (on work (saw_state work.terms line x)) (refl, state_next answer.none_free work here line x) ran
  step (at.Reading read) ran = next (has_read work read.line (read_turned read x)) (read_next answer.none_free work here read.line (read_turned read x)) ran
  step (at.Landing line entry floor) ran = next (has_landed work line entry (floor_turned floor x)) (land_next answer.none_free work here line entry (floor_turned floor x)) ran
  step (at.Walking line entry walk) ran = next (has_walked work line entry (walk_turned walk x)) (walk_next answer.none_free work here line entry (walk_turned walk x)) ran
  step (at.Seeing line entry found) ran = next (saw_again work line entry found x) (again_next answer.none_free work here line entry found x) ran
  step (at.Setting line entry set) ran = next (has_set work line entry (set_turned set x)) (set_next answer.none_free work here line entry (set_turned set x)) ran
  step (at.Unsetting line entry unset) ran = next (has_unset work line entry (unset_turned unset x)) (unset_next answer.none_free work here line entry (unset_turned unset x)) ran
  step (at.Stamping line entry) ran = next (on work (clears work.terms line)) (refl, λ xs told. told) ran
  step (at.Clearing clear) ran = next (emptied work clear.line) (refl, line_next answer.none_free work here clear.line) ran
  step (at.Status node) ran = next (on work (saw_status work.terms node x)) (refl, status_next answer.none_free work here node x) ran
  step (at.Stamp node) ran = next (on work (saw_stamp work.terms node x)) (refl, stamp_next answer.none_free work here node x) ran
  step (at.Version node) ran = next (on work (saw_version work.terms node x)) (refl, version_next answer.none_free work here node x) ran
  step (at.Releasing release) ran = next (has_released work release.node (release_turned release x)) (released_next answer.none_free work here release.node (release_turned release x)) ran
  step (at.Counting node free) ran =
      subst (λ (k : Layout). IsToldAt k answer.none_free (at.Counting node free) (x ∷ xs)) same
      (counted_next answer.none_free work here node x free xs (subst (λ (k : Layout). IsToldAt k answer.none_free (after_count work.terms node (free && not (x == free_status))) xs) (sym same)
      (rec (on work (after_count work.terms node (free && not (x == free_status)))) same ran)))
  step (at.Leaving free) ran = cc

found_on : (most : Layout) (answer : Turned) → 0 < most.nodes → (xs : List ℕ) (work : Work) → work.terms.layout ≡ most → EndsTurned (Go (Working work)) xs answer → IsToldAt most answer.none_free work.at xs
found_on most answer some [] work same ran = absurd (cc)
found_on most answer some (x ∷ xs) work same ran = step most answer some x xs (λ w same' ran'. found_on most answer some xs w same' ran') work same work.at ran

-- A whole turn.
pub turn_tells : (epoch : ℕ) (v : Member) (told : List ℕ) (answer : TurnReply) → 0 < v.about.layout.nodes → FoundLock told answer → run_of making_turned (Go (turn_in v epoch)) told ≡ Done answer → TellsOfFree v.about.layout told answer
turn_tells epoch v told (reply.Held word) some lock ran = tt
turn_tells epoch v told (reply.Turned turned) some lock ran =
    let most = v.about.layout in
    let on : EndsTurned (Go (turn_in v epoch)) (untaken_lock ∷ lock.0) turned = subst (λ (all : List ℕ). EndsTurned (Go (turn_in v epoch)) all turned) lock.1 ran in
    subst (FoundStatuses most turned.none_free) (sym lock.1) (told_before most turned.none_free untaken_lock lock.0 (found_on most turned some lock.0 (work_from most v.about.generation epoch (epoch - 2)) refl on))
