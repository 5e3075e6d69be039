use Rattle.std.proofs.Common.{◌≡◌, ◌⊎◌, inl, inr, ℕ, ◌+◌, ◌<◌, ◌≤◌, true, false, length, sym, ap, ◌∙◌, subst, arith}
use Rattle.call_stages.specs.declared.once.Once.{Once}
use Rattle.call_stages.specs.declared.once.Placed.{Placed}
use Rattle.pm_words.specs.declared.layout.Layout.{Layout}
use Rattle.std.specs.Prelude.{Some, None, is_some}
use Rattle.std.proofs.lemmas.Bool.{false≢true}
use Rattle.lone_hops_law.specs.lone_updater_law.specs.CallLogs.{ready_lines}
use Rattle.index_core.specs.Costs.{most_actions}
use Rattle.index_core.specs.CoreCalls.{count_of}
use Rattle.index_core.specs.Indexes.{Index, IsIndex, world}
use Rattle.index_core.specs.Lone.{HasNoCalls, HasShortWays, NeedsNoTurn, TriesAlone, lacks_line, lacks_node, needs_split, whole_of}
use Rattle.index_core.specs.Withins.{RanAlone, TriedAlone, TriesInTime}
use Rattle.index_core.specs.declared.party.CoreCall.{CoreCall}
use Rattle.index_core.proofs.Alone.{ran_runs, ran_each, ran_locks, full_runs, full_again, counted_each, counted_locks}
use Rattle.index_core.proofs.Alone.{ran_quiet, ran_still}
use Rattle.index_core.proofs.Retrying.{HasItsLine, HasItsNode, RanAll, Tried, tried_first, line_at_once, line_behind_turn}
use Rattle.index_core.proofs.Retrying.{node_at_once, node_behind_turn, answered_at_once, ran_once, ran_twice}
use Rattle.index_core.proofs.Retrying.{takes_behind_line, takes_behind_node, takes_behind_split, twice_answered}
use Rattle.index_core.proofs.Retrying.{again_is_no_get, line_is_no_get, node_is_no_get}
use Rattle.index_core.proofs.Withins.{Stood, stood_first, stood_behind, stood_again, stood_spare, cut_behind}
use Rattle.index_core.proofs.Withins.{back_line, back_node, back_split}
use Rattle.index_core.proofs.Costs.{needs_none}
use Rattle.index_core.proofs.InTime.{again_so, try_in_time}
use Rattle.index_core.proofs.index.Core.name_within.Goals as goal
use Rattle.index_core.proofs.index.Core.name_within.Goals.{After-lacks_line, After-lacks_node, After-needs_split}
use Rattle.index_core.proofs.index.Core.name_within.Goals.{In-Again, In_default-answer}
use Rattle.index_core.proofs.index.Core.name_within.Goals.{then-lacks_line+in-Some-try_behind_turn_within}
use Rattle.index_core.proofs.index.Core.name_within.Goals.{else-lacks_line}
use Rattle.index_core.proofs.index.Core.name_within.Goals.{then-lacks_node+in-Some-try_behind_turn_within-2}
use Rattle.index_core.proofs.index.Core.name_within.Goals.{else-lacks_node, then-needs_split+in-Some-try_within}
use Rattle.index_core.proofs.index.Core.name_within.Goals.{else-needs_split}

-- ---- how it stands behind each of its tries, and so many events are made

-- behind the first
abbrev First : Index → Index → ℕ → CoreCall → Once Placed → Type 0
First s0 s i d answer = Stood s0 s i d answer × Tried s0 s i d answer 0

first : (g : _) (c : After-lacks_line g) → First c.args.self.now c.try_within.new.self c.args.caller c.args.call c.in-Some.answer
first g c =
    let t = c.in-Some.ensures.tries in (
      stood_first c.args.self.now c.try_within.new.self c.args.caller c.args.call c.in-Some.answer c.requires.still t c.try_within.ensures.index,
      tried_first c.args.self.now c.try_within.new.self c.args.caller c.args.call c.in-Some.answer c.try_within.ensures.before c.requires.still t.tries t.each_lock t.locks,
    )

-- behind the one that was made for want of a log line, if it was
abbrev Lined : Index → Index → ℕ → CoreCall → Once Placed → Type 0
Lined s0 s i d answer = Stood s0 s i d answer × HasItsLine s0 s i d answer

line : (g : _) (c : After-lacks_node g) → First c.args.self.now c.try_within.new.self c.args.caller c.args.call c.in-Some.answer →
    Lined c.args.self.now c.if-lacks_line.self c.args.caller c.args.call c.if-lacks_line.answer
line g c (one, tried) =
    let s0 = c.args.self.now in
    let i = c.args.caller in
    let d = c.args.call in
    elim c.if-lacks_line.branch [
      | then-lacks_line+in-Some-try_behind_turn_within w ↦ subst (λ (q : Index × Once Placed). Lined s0 q.0 i d q.1) (λ k. (sym w.self-is k, sym w.answer-is k))
          (let lacks = sym c.lacks_line.ensures ∙ w.if-lacks_line.true in
          let back = back_line c.in-Some.answer lacks in
          let again = w.in-Some-try_behind_turn_within.ensures.tries in (
            stood_behind s0 c.try_within.new.self w.try_behind_turn_within.new.self i d c.in-Some.answer w.in-Some-try_behind_turn_within.again back.0 one back.1 again w.try_behind_turn_within.ensures.index,
            line_behind_turn s0 _ _ i d _ _ tried lacks again.tries c.requires.caller,
          ))
      | else-lacks_line w ↦ subst (λ (q : Index × Once Placed). Lined s0 q.0 i d q.1) (λ k. (sym w.self-is k, sym w.answer-is k))
          (one, line_at_once s0 _ i d _ tried (sym c.lacks_line.ensures ∙ w.if-lacks_line.false))
    ]

line_events : (g : _) (c : After-lacks_node g) → c.if-lacks_line.steps + c.if-lacks_line.budget ≡ c.args.steps.now + c.args.budget.now
line_events g c =
    let made = c.try_within.ensures.events in
    elim c.if-lacks_line.branch [
      | then-lacks_line+in-Some-try_behind_turn_within w ↦ omega (arith, w.steps-is, w.budget-is, w.try_behind_turn_within.ensures.events, made)
      | else-lacks_line w ↦ omega (arith, w.steps-is, w.budget-is, made)
    ]

-- and behind the one for want of a node
abbrev Noded : Index → Index → ℕ → CoreCall → Once Placed → Type 0
Noded s0 s i d answer = Stood s0 s i d answer × HasItsNode s0 s i d answer

node : (g : _) (c : After-needs_split g) → Lined c.args.self.now c.if-lacks_line.self c.args.caller c.args.call c.if-lacks_line.answer → Noded c.args.self.now c.if-lacks_node.self c.args.caller c.args.call c.if-lacks_node.answer
node g c (one, has_line) =
    let s0 = c.args.self.now in
    let i = c.args.caller in
    let d = c.args.call in
    elim c.if-lacks_node.branch [
      | then-lacks_node+in-Some-try_behind_turn_within-2 w ↦ subst (λ (q : Index × Once Placed). Noded s0 q.0 i d q.1) (λ k. (sym w.self-is k, sym w.answer-is k))
          (let lacks = sym c.lacks_node.ensures ∙ w.if-lacks_node.true in
          let back = back_node c.if-lacks_line.answer lacks in
          let again = w.in-Some-try_behind_turn_within-2.ensures.tries in (
            stood_behind s0 c.if-lacks_line.self w.try_behind_turn_within-then-lacks_node.new.self i d c.if-lacks_line.answer w.in-Some-try_behind_turn_within-2.again back.0 one back.1 again
                w.try_behind_turn_within-then-lacks_node.ensures.index,
            node_behind_turn s0 _ _ i d _ _ has_line lacks again.tries c.requires.caller,
          ))
      | else-lacks_node w ↦ subst (λ (q : Index × Once Placed). Noded s0 q.0 i d q.1) (λ k. (sym w.self-is k, sym w.answer-is k))
          (one, node_at_once s0 _ i d _ has_line (sym c.lacks_node.ensures ∙ w.if-lacks_node.false))
    ]

node_events : (g : _) (c : After-needs_split g) → c.if-lacks_line.steps + c.if-lacks_line.budget ≡ c.args.steps.now + c.args.budget.now → c.if-lacks_node.steps + c.if-lacks_node.budget ≡ c.args.steps.now + c.args.budget.now
node_events g c made = elim c.if-lacks_node.branch [
  | then-lacks_node+in-Some-try_behind_turn_within-2 w ↦ omega (arith, w.steps-is, w.budget-is, w.try_behind_turn_within-then-lacks_node.ensures.events, made)
  | else-lacks_node w ↦ omega (arith, w.steps-is, w.budget-is, made)
]

-- where nothing was wanting, it is as the first try left it
abbrev IsSame : Index → Index → Once Placed → Once Placed → ℕ → ℕ → ℕ → ℕ → Type 0
IsSame s v answer told steps before budget left = (s ≡ v) × (answer ≡ told) × (steps ≡ before) × (budget ≡ left)

line_same : (g : _) (c : After-lacks_node g) → lacks_line c.in-Some.answer ≡ false →
    IsSame c.if-lacks_line.self c.try_within.new.self c.if-lacks_line.answer c.in-Some.answer c.if-lacks_line.steps c.try_within.new.steps c.if-lacks_line.budget c.try_within.new.budget
line_same g c none = elim c.if-lacks_line.branch [
  | then-lacks_line+in-Some-try_behind_turn_within w ↦ absurd (let no : true ≡ false = sym (sym c.lacks_line.ensures ∙ w.if-lacks_line.true) ∙ none in cc)
  | else-lacks_line w ↦ (w.self-is, w.answer-is, w.steps-is, w.budget-is)
]

node_same : (g : _) (c : After-needs_split g) → lacks_node c.in-Some.answer ≡ false →
    IsSame c.if-lacks_line.self c.try_within.new.self c.if-lacks_line.answer c.in-Some.answer c.if-lacks_line.steps c.try_within.new.steps c.if-lacks_line.budget c.try_within.new.budget →
    IsSame c.if-lacks_node.self c.try_within.new.self c.if-lacks_node.answer c.in-Some.answer c.if-lacks_node.steps c.try_within.new.steps c.if-lacks_node.budget c.try_within.new.budget
node_same g c none line = elim c.if-lacks_node.branch [
  | then-lacks_node+in-Some-try_behind_turn_within-2 w ↦ absurd (let no : true ≡ false = sym (sym (c.lacks_node.ensures ∙ ap lacks_node line.1) ∙ w.if-lacks_node.true) ∙ none in cc)
  | else-lacks_node w ↦ (w.self-is ∙ line.0, w.answer-is ∙ line.1, w.steps-is ∙ line.2, w.budget-is ∙ line.3)
]

-- behind the last one, which was made again where the one before split its node, or is that one
abbrev IsLast : Index → Index → ℕ → CoreCall → Once Placed → Once Placed → ℕ → ℕ → ℕ → ℕ → Type 0
IsLast v s i d told answer steps budget after left =
    ((needs_split told ≡ true) × TriedAlone v i d s answer × IsIndex s × (after + left ≡ steps + budget) × TriesInTime v d (Some answer) budget steps after)
    ⊎ ((needs_split told ≡ false) × (s ≡ v) × (answer ≡ told) × (after ≡ steps) × (left ≡ budget))

made_last : (v s s' : Index) (i : ℕ) (d : CoreCall) (told answer then : Once Placed) (steps budget after left after' left' : ℕ) → needs_split told ≡ true → s ≡ s' → answer ≡ then → after ≡ after' → left ≡ left' →
    TriedAlone v i d s' then → IsIndex s' → after' + left' ≡ steps + budget → TriesInTime v d (Some then) budget steps after' → IsLast v s i d told answer steps budget after left
made_last v s s' i d told answer then steps budget after left after' left' split same said made spare tried is events time =
    subst (λ (q : Index × Once Placed × ℕ × ℕ). IsLast v q.0 i d told q.1 steps budget q.2 q.3) (λ k. (sym same k, sym said k, sym made k, sym spare k)) (inl (split, tried, is, events, time))

again_last : (g : _) (c : In-Again g) → IsLast c.if-lacks_node.self c.if-needs_split.self c.args.caller c.args.call c.if-lacks_node.answer c.if-needs_split.answer c.if-lacks_node.steps c.if-lacks_node.budget c.if-needs_split.steps c.if-needs_split.budget
again_last g c = elim c.if-needs_split.branch [
  | then-needs_split+in-Some-try_within w ↦ made_last _ _ _ _ _ _ _ _ _ _ _ _ _ _ (sym c.needs_split.ensures ∙ w.if-needs_split.true) w.self-is w.answer-is w.steps-is w.budget-is
      w.in-Some-try_within.ensures.tries w.try_within-then-needs_split.ensures.index w.try_within-then-needs_split.ensures.events w.in-Some-try_within.ensures.in_time
  | else-needs_split w ↦ inr (sym c.needs_split.ensures ∙ w.if-needs_split.false, w.self-is, w.answer-is, w.steps-is, w.budget-is)
]

other_last : (g : _) (c : In_default-answer g) → IsLast c.if-lacks_node.self c.if-needs_split.self c.args.caller c.args.call c.if-lacks_node.answer c.if-needs_split.answer c.if-lacks_node.steps c.if-lacks_node.budget c.if-needs_split.steps c.if-needs_split.budget
other_last g c = elim c.if-needs_split.branch [
  | then-needs_split+in-Some-try_within w ↦ made_last _ _ _ _ _ _ _ _ _ _ _ _ _ _ (sym c.needs_split.ensures ∙ w.if-needs_split.true) w.self-is w.answer-is w.steps-is w.budget-is
      w.in-Some-try_within.ensures.tries w.try_within-then-needs_split.ensures.index w.try_within-then-needs_split.ensures.events w.in-Some-try_within.ensures.in_time
  | else-needs_split w ↦ inr (sym c.needs_split.ensures ∙ w.if-needs_split.false, w.self-is, w.answer-is, w.steps-is, w.budget-is)
]

module _ (s0 v s : Index) (i : ℕ) (d : CoreCall) (told answer : Once Placed) (steps budget after left : ℕ) where
  stood_last : Stood s0 v i d told → IsLast v s i d told answer steps budget after left → Stood s0 s i d answer
  stood_last stood (inl (split, tried, is, events, time)) = let back = back_split told split in stood_again s0 v s i d told answer back.0 stood back.1 tried is
  stood_last stood (inr (whole, same, answered, made, spare)) = subst (λ (q : Index × Once Placed). Stood s0 q.0 i d q.1) (λ k. (sym same k, sym answered k)) stood

  ran_last : count_of d ≡ None → Noded s0 v i d told → IsLast v s i d told answer steps budget after left → RanAll s0 s i d answer
  ran_last none (stood, has) (inl (split, tried, is, events, time)) = ran_twice s0 v s i d told answer none has split stood.index tried.tries tried.each_lock tried.locks
  ran_last none (stood, has) (inr (whole, same, answered, made, spare)) = subst (λ (q : Index × Once Placed). RanAll s0 q.0 i d q.1) (λ k. (sym same k, sym answered k)) (ran_once s0 v i d told none has whole)

  events_last : (all : ℕ) → steps + budget ≡ all → IsLast v s i d told answer steps budget after left → after + left ≡ all
  events_last all before (inl (split, tried, is, events, time)) = events ∙ before
  events_last all before (inr (whole, same, answered, made, spare)) = omega (arith, before, made, spare)

  few_last : (s1 : Index) (one : Once Placed) (all left1 before steps1 : ℕ) → IsIndex s1 → HasNoCalls s1 → TriesAlone s0 i d s1 one → TriesInTime s0 d (Some one) all before steps1 → steps1 + left1 ≡ before + all →
      IsSame v s1 told one steps steps1 budget left1 → HasShortWays s0 → IsLast v s i d told answer steps budget after left → after ≤ before + most_actions s0.layout d (ready_lines (world s0))
  few_last s1 one all left1 before steps1 is1 idle tries in_time spent still short (inl (split, tried, is, events, time)) =
      again_so (Once Placed) s0 s1 v i d one told (Some answer) all left1 budget before steps1 steps after is1 idle tries in_time spent still split time short
  few_last s1 one all left1 before steps1 is1 idle tries in_time spent still short (inr (whole, same, answered, made, spare)) =
      let few = try_in_time (Once Placed) s0 d (Some one) all before steps1 short in_time in
      let kept = still.2 in
      omega (arith, few, kept, made)

-- ---- the answers

pub try_behind_turn_within-requires-clause-still : goal.try_behind_turn_within-requires-clause-still
try_behind_turn_within-requires-clause-still g c = c.in-Some.ensures.tries.still c.args.caller c.requires.still

pub try_behind_turn_within-requires-then-lacks_node-clause-still : goal.try_behind_turn_within-requires-then-lacks_node-clause-still
try_behind_turn_within-requires-then-lacks_node-clause-still g c =
    let at = goal.at.try_behind_turn_within-requires-then-lacks_node-clause-still g c in
    (line g at.After-lacks_node (first g at.After-lacks_line)).0.still

pub returns-in_default-clause-runs : goal.returns-in_default-clause-runs
returns-in_default-clause-runs g c = c.in_default.ensures.tries.off

pub returns-in_default-try_behind_turn_within-clause-runs : goal.returns-in_default-try_behind_turn_within-clause-runs
returns-in_default-try_behind_turn_within-clause-runs g c =
    let s0 = c.args.self.now in
    let lacks = sym c.lacks_line.ensures ∙ c.if-lacks_line.true in
    let one = first g (goal.at.returns-in_default-try_behind_turn_within-clause-runs g c).After-lacks_line in
    let back = back_line c.in-Some.answer lacks in
    let cut = c.in_default-try_behind_turn_within.ensures.tries in
    cut_behind s0 c.try_within.new.self c.try_behind_turn_within.new.self c.args.caller c.args.call (one.0.back back.0 back.1) cut.off
    (takes_behind_line s0 c.try_within.new.self c.try_behind_turn_within.new.self c.args.caller c.args.call c.in-Some.answer cut.each_lock cut.locks one.1 lacks)

pub returns-in_default-try_behind_turn_within-2-clause-runs : goal.returns-in_default-try_behind_turn_within-2-clause-runs
returns-in_default-try_behind_turn_within-2-clause-runs g c =
    let s0 = c.args.self.now in
    let at = goal.at.returns-in_default-try_behind_turn_within-2-clause-runs g c in
    let lacks = sym c.lacks_node.ensures ∙ c.if-lacks_node.true in
    let one = line g at.After-lacks_node (first g at.After-lacks_line) in
    let back = back_node c.if-lacks_line.answer lacks in
    let cut = c.in_default-try_behind_turn_within-2.ensures.tries in
    cut_behind s0 c.if-lacks_line.self c.try_behind_turn_within-then-lacks_node.new.self c.args.caller c.args.call (one.0.back back.0 back.1) cut.off
    (takes_behind_node s0 c.if-lacks_line.self c.try_behind_turn_within-then-lacks_node.new.self c.args.caller c.args.call c.if-lacks_line.answer cut.each_lock cut.locks one.1 lacks)

pub try_within-requires-then-needs_split-clause-spare : goal.try_within-requires-then-needs_split-clause-spare
try_within-requires-then-needs_split-clause-spare g c =
    let at = goal.at.try_within-requires-then-needs_split-clause-spare g c in
    let one = node g at.After-needs_split (line g at.After-lacks_node (first g at.After-lacks_line)) in
    let back = back_split c.if-lacks_node.answer (sym c.needs_split.ensures ∙ c.if-needs_split.true) in
    stood_spare c.args.self.now c.if-lacks_node.self c.args.caller c.args.call c.if-lacks_node.answer back.0 one.0 back.1 c.requires.spare

pub try_within-requires-then-needs_split-clause-still : goal.try_within-requires-then-needs_split-clause-still
try_within-requires-then-needs_split-clause-still g c =
    let at = goal.at.try_within-requires-then-needs_split-clause-still g c in
    (node g at.After-needs_split (line g at.After-lacks_node (first g at.After-lacks_line))).0.still

pub returns-in_default-try_within-clause-runs : goal.returns-in_default-try_within-clause-runs
returns-in_default-try_within-clause-runs g c =
    let s0 = c.args.self.now in
    let at = goal.at.returns-in_default-try_within-clause-runs g c in
    let split = sym c.needs_split.ensures ∙ c.if-needs_split.true in
    let one = node g at.After-needs_split (line g at.After-lacks_node (first g at.After-lacks_line)) in
    let back = back_split c.if-lacks_node.answer split in
    let cut = c.in_default-try_within.ensures.tries in
    cut_behind s0 c.if-lacks_node.self c.try_within-then-needs_split.new.self c.args.caller c.args.call (one.0.back back.0 back.1) cut.off
    (takes_behind_split s0 c.if-lacks_node.self c.try_within-then-needs_split.new.self c.args.caller c.args.call c.if-lacks_node.answer cut.each_lock cut.locks one.1 split)

pub count_call-requires-clause-party : goal.count_call-requires-clause-party
count_call-requires-clause-party g c =
    let at = goal.at.count_call-requires-clause-party g c in
    let one = node g at.After-needs_split (line g at.After-lacks_node (first g at.After-lacks_line)) in
    let last = stood_last c.args.self.now _ c.if-needs_split.self c.args.caller c.args.call _ c.if-needs_split.answer _ _ _ _ one.0 (again_last g at.In-Again) in
    let same = ap (λ (l : Layout). l.callers) last.layout in
    let low = c.requires.caller in
    omega arith

pub count_call-requires-clause-idle : goal.count_call-requires-clause-idle
count_call-requires-clause-idle g c =
    let at = goal.at.count_call-requires-clause-idle g c in
    let one = node g at.After-needs_split (line g at.After-lacks_node (first g at.After-lacks_line)) in
    (stood_last c.args.self.now _ c.if-needs_split.self c.args.caller c.args.call _ c.if-needs_split.answer _ _ _ _ one.0 (again_last g at.In-Again)).still.calls

pub returns-in-Again-clause-runs : goal.returns-in-Again-clause-runs
returns-in-Again-clause-runs g c =
    let s0 = c.args.self.now in
    let i = c.args.caller in
    let d = c.args.call in
    let at = goal.at.returns-in-Again-clause-runs g c in
    let one = first g at.After-lacks_line in
    let lined = line g at.After-lacks_node one in
    let noded = node g at.After-needs_split lined in
    let last = again_last g at.In-Again in
    let split = stood_last s0 _ c.if-needs_split.self i d _ c.if-needs_split.answer _ _ _ _ noded.0 last in
    let all = ran_last s0 _ c.if-needs_split.self i d _ c.if-needs_split.answer _ _ _ _ c.requires.name noded last in
    let runs = full_runs s0 c.if-needs_split.self i d c.if-needs_split.answer all.tries all.ran all.few (ap whole_of c.in-Again.is) c.count_call.new.self c.count_call.ensures.counts in
    record {
      runs = runs;
      full = λ _. elim c.if-needs_split.branch [
        | then-needs_split+in-Some-try_within w ↦
            absurd (twice_answered s0 _ _ i d _ _ c.requires.name noded.1 (sym c.needs_split.ensures ∙ w.if-needs_split.true) noded.0.index w.in-Some-try_within.ensures.tries.tries w.in-Some-try_within.ensures.tries.each_lock w.in-Some-try_within.ensures.tries.locks
            _ (sym w.answer-is ∙ c.in-Again.is))
        | else-needs_split w ↦ elim c.if-lacks_node.branch [
          | then-lacks_node+in-Some-try_behind_turn_within-2 v ↦ lined.0.was v.in-Some-try_behind_turn_within-2.ensures.tries.before
          | else-lacks_node v ↦ elim c.if-lacks_line.branch [
            | then-lacks_line+in-Some-try_behind_turn_within u ↦ one.0.was u.in-Some-try_behind_turn_within.ensures.tries.before
            | else-lacks_line u ↦
                let same = sym (v.answer-is ∙ u.answer-is) in
                absurd (answered_at_once s0 c.try_within.new.self i d c.in-Some.answer c.in-Some.ensures.tries.tries
                (sym c.lacks_line.ensures ∙ u.if-lacks_line.false)
                (ap lacks_node (sym u.answer-is) ∙ sym c.lacks_node.ensures ∙ v.if-lacks_node.false)
                (ap needs_split same ∙ sym c.needs_split.ensures ∙ w.if-needs_split.false)
                _ (same ∙ sym w.answer-is ∙ c.in-Again.is))
          ]
        ]
      ];
      quiet = ran_quiet s0 c.count_call.new.self i d (whole_of c.if-needs_split.answer) runs;
      still = ran_still s0 c.count_call.new.self i d (whole_of c.if-needs_split.answer) runs;
      spare = let same = ap (λ (s : Index). length s.history) c.count_call.ensures.counts.is in let left = split.spare in let kept = c.count_call.ensures.spare in omega arith;
      each_lock = counted_each s0 c.if-needs_split.self i d c.count_call.new.self c.count_call.ensures.counts (ran_each _ _ _ _ _ all.tries all.ran all.few);
      locks = counted_locks s0 c.if-needs_split.self i d c.count_call.new.self c.count_call.ensures.counts (ran_locks _ _ _ _ _ all.tries all.ran all.few);
    }

-- a get isn't made again
pub returns-in_default-try_behind_turn_within-clause-reads : goal.returns-in_default-try_behind_turn_within-clause-reads
returns-in_default-try_behind_turn_within-clause-reads g c = λ get.
    let lacks = sym c.lacks_line.ensures ∙ c.if-lacks_line.true in
    let one = first g (goal.at.returns-in_default-try_behind_turn_within-clause-reads g c).After-lacks_line in
    absurd (again_is_no_get c.args.self.now c.try_within.new.self c.args.caller c.args.call c.in-Some.answer 0 one.1 (inl (inl lacks)) get)

pub returns-in_default-try_behind_turn_within-2-clause-reads : goal.returns-in_default-try_behind_turn_within-2-clause-reads
returns-in_default-try_behind_turn_within-2-clause-reads g c = λ get.
    let at = goal.at.returns-in_default-try_behind_turn_within-2-clause-reads g c in
    let lacks = sym c.lacks_node.ensures ∙ c.if-lacks_node.true in
    let one = line g at.After-lacks_node (first g at.After-lacks_line) in
    absurd (line_is_no_get c.args.self.now c.if-lacks_line.self c.args.caller c.args.call c.if-lacks_line.answer one.1 lacks get)

pub returns-in_default-try_within-clause-reads : goal.returns-in_default-try_within-clause-reads
returns-in_default-try_within-clause-reads g c = λ get.
    let at = goal.at.returns-in_default-try_within-clause-reads g c in
    let split = sym c.needs_split.ensures ∙ c.if-needs_split.true in
    let one = node g at.After-needs_split (line g at.After-lacks_node (first g at.After-lacks_line)) in
    absurd (node_is_no_get c.args.self.now c.if-lacks_node.self c.args.caller c.args.call c.if-lacks_node.answer one.1 split get)

pub returns-in-Again-clause-reads : goal.returns-in-Again-clause-reads
returns-in-Again-clause-reads g c = λ get.
    let ran : RanAlone c.args.self.now c.args.caller c.args.call c.count_call.new.self (whole_of c.if-needs_split.answer) = returns-in-Again-clause-runs g c in
    (ran.runs.reads get).words

pub returns-in_default-try_within-clause-events : goal.returns-in_default-try_within-clause-events
returns-in_default-try_within-clause-events g c =
    let at = goal.at.returns-in_default-try_within-clause-events g c in
    let before = node_events g at.After-needs_split (line_events g at.After-lacks_node) in
    let made = c.try_within-then-needs_split.ensures.events in
    omega (arith, before, made)

pub returns-in-Again-clause-events : goal.returns-in-Again-clause-events
returns-in-Again-clause-events g c =
    let at = goal.at.returns-in-Again-clause-events g c in
    events_last c.args.self.now _ _ c.args.caller c.args.call _ _ _ _ _ _ _ (node_events g at.After-needs_split (line_events g at.After-lacks_node)) (again_last g at.In-Again)

pub returns-in_default-clause-in_time : goal.returns-in_default-clause-in_time
returns-in_default-clause-in_time g c = λ short none.
    try_in_time (Once Placed) c.args.self.now c.args.call None c.args.budget.now c.args.steps.now c.try_within.new.steps short c.in_default.ensures.in_time

-- a call that needs no turn lacks neither
none_lacks : (g : _) (c : After-lacks_line g) → NeedsNoTurn c.args.caller c.args.call c.args.self.now → (lacks_line c.in-Some.answer ≡ false) × (lacks_node c.in-Some.answer ≡ false)
none_lacks g c none = needs_none c.args.self.now c.try_within.new.self c.args.caller c.args.call c.in-Some.answer c.try_within.ensures.before c.requires.still.calls c.in-Some.ensures.tries.tries none

pub returns-in_default-try_behind_turn_within-clause-in_time : goal.returns-in_default-try_behind_turn_within-clause-in_time
returns-in_default-try_behind_turn_within-clause-in_time g c = λ short none.
    let needs = none_lacks g (goal.at.returns-in_default-try_behind_turn_within-clause-in_time g c).After-lacks_line none in
    absurd (let no : true ≡ false = sym (sym c.lacks_line.ensures ∙ c.if-lacks_line.true) ∙ needs.0 in cc)

pub returns-in_default-try_behind_turn_within-2-clause-in_time : goal.returns-in_default-try_behind_turn_within-2-clause-in_time
returns-in_default-try_behind_turn_within-2-clause-in_time g c = λ short none.
    let at = goal.at.returns-in_default-try_behind_turn_within-2-clause-in_time g c in
    let needs = none_lacks g at.After-lacks_line none in
    let same = line_same g at.After-lacks_node needs.0 in
    absurd (let no : true ≡ false = sym (sym (c.lacks_node.ensures ∙ ap lacks_node same.1) ∙ c.if-lacks_node.true) ∙ needs.1 in cc)

pub returns-in_default-try_within-clause-in_time : goal.returns-in_default-try_within-clause-in_time
returns-in_default-try_within-clause-in_time g c = λ short none.
    let at = goal.at.returns-in_default-try_within-clause-in_time g c in
    let needs = none_lacks g at.After-lacks_line none in
    let same = node_same g at.After-needs_split needs.1 (line_same g at.After-lacks_node needs.0) in
    again_so (Once Placed) c.args.self.now c.try_within.new.self c.if-lacks_node.self c.args.caller c.args.call c.in-Some.answer c.if-lacks_node.answer None c.args.budget.now c.try_within.new.budget c.if-lacks_node.budget c.args.steps.now c.try_within.new.steps c.if-lacks_node.steps c.try_within-then-needs_split.new.steps
    c.try_within.ensures.index (c.in-Some.ensures.tries.still c.args.caller c.requires.still).calls c.in-Some.ensures.tries.tries c.in-Some.ensures.in_time c.try_within.ensures.events same (sym c.needs_split.ensures ∙ c.if-needs_split.true) c.in_default-try_within.ensures.in_time short

pub returns-in-Again-clause-in_time : goal.returns-in-Again-clause-in_time
returns-in-Again-clause-in_time g c = λ short none.
    let at = goal.at.returns-in-Again-clause-in_time g c in
    let needs = none_lacks g at.After-lacks_line none in
    let same = node_same g at.After-needs_split needs.1 (line_same g at.After-lacks_node needs.0) in
    few_last c.args.self.now c.if-lacks_node.self c.if-needs_split.self c.args.caller c.args.call c.if-lacks_node.answer c.if-needs_split.answer c.if-lacks_node.steps c.if-lacks_node.budget c.if-needs_split.steps _
    c.try_within.new.self c.in-Some.answer c.args.budget.now c.try_within.new.budget c.args.steps.now c.try_within.new.steps
    c.try_within.ensures.index (c.in-Some.ensures.tries.still c.args.caller c.requires.still).calls c.in-Some.ensures.tries.tries c.in-Some.ensures.in_time c.try_within.ensures.events same short (again_last g at.In-Again)

pub returns-in_default-answer : goal.returns-in_default-answer
returns-in_default-answer g c =
    let s0 = c.args.self.now in
    let i = c.args.caller in
    let d = c.args.call in
    let at = goal.at.returns-in_default-answer g c in
    let noded = node g at.After-needs_split (line g at.After-lacks_node (first g at.After-lacks_line)) in
    let last = other_last g at.In_default-answer in
    let split = stood_last s0 _ c.if-needs_split.self i d _ c.if-needs_split.answer _ _ _ _ noded.0 last in
    let all = ran_last s0 _ c.if-needs_split.self i d _ c.if-needs_split.answer _ _ _ _ c.requires.name noded last in
    let runs = ran_runs s0 c.if-needs_split.self i d c.if-needs_split.answer all.tries all.ran all.few (λ full. let again = full_again c.if-needs_split.answer full in c.in_default-answer.not-Again again.0 again.1) in
    record {
      runs = record {
        runs = runs;
        full = λ full. let again = full_again c.if-needs_split.answer full in absurd (c.in_default-answer.not-Again again.0 again.1);
        quiet = ran_quiet s0 c.if-needs_split.self i d (whole_of c.if-needs_split.answer) runs;
        still = ran_still s0 c.if-needs_split.self i d (whole_of c.if-needs_split.answer) runs;
        spare = split.spare;
        each_lock = ran_each _ _ _ _ _ all.tries all.ran all.few;
        locks = ran_locks _ _ _ _ _ all.tries all.ran all.few;
      };
      reads = λ get. (runs.reads get).words;
      spent = λ none. absurd (false≢true (sym (ap is_some none)));
      events = events_last s0 _ _ i d _ _ _ _ _ _ _ (node_events g at.After-needs_split (line_events g at.After-lacks_node)) last;
      in_time = λ short none.
          let needs = none_lacks g at.After-lacks_line none in
          let same = node_same g at.After-needs_split needs.1 (line_same g at.After-lacks_node needs.0) in
          few_last s0 c.if-lacks_node.self c.if-needs_split.self i d c.if-lacks_node.answer c.if-needs_split.answer c.if-lacks_node.steps c.if-lacks_node.budget c.if-needs_split.steps _
          c.try_within.new.self c.in-Some.answer c.args.budget.now c.try_within.new.budget c.args.steps.now c.try_within.new.steps
          c.try_within.ensures.index (c.in-Some.ensures.tries.still i c.requires.still).calls c.in-Some.ensures.tries.tries c.in-Some.ensures.in_time c.try_within.ensures.events same short last;
      index = split.index;
    }

pub try_within-requires-clause-caller : goal.try_within-requires-clause-caller
try_within-requires-clause-caller g c = c.requires.caller

pub try_within-requires-clause-begins : goal.try_within-requires-clause-begins
try_within-requires-clause-begins g c = c.requires.begins

pub try_within-requires-clause-spare : goal.try_within-requires-clause-spare
try_within-requires-clause-spare g c = c.requires.spare

pub try_within-requires-clause-still : goal.try_within-requires-clause-still
try_within-requires-clause-still g c = c.requires.still

pub try_behind_turn_within-requires-clause-begins : goal.try_behind_turn_within-requires-clause-begins
try_behind_turn_within-requires-clause-begins g c = c.requires.begins

pub try_behind_turn_within-requires-clause-caller : goal.try_behind_turn_within-requires-clause-caller
try_behind_turn_within-requires-clause-caller g c =
    let one = first g (goal.at.try_behind_turn_within-requires-clause-caller g c).After-lacks_line in
    subst (λ (l : Layout). c.args.caller < l.callers) (sym one.0.layout) c.requires.caller

pub try_behind_turn_within-requires-clause-spare : goal.try_behind_turn_within-requires-clause-spare
try_behind_turn_within-requires-clause-spare g c =
    let one = first g (goal.at.try_behind_turn_within-requires-clause-spare g c).After-lacks_line in
    let back = back_line c.in-Some.answer (sym c.lacks_line.ensures ∙ c.if-lacks_line.true) in
    stood_spare c.args.self.now c.try_within.new.self c.args.caller c.args.call c.in-Some.answer back.0 one.0 back.1 c.requires.spare

pub try_behind_turn_within-requires-then-lacks_node-clause-begins : goal.try_behind_turn_within-requires-then-lacks_node-clause-begins
try_behind_turn_within-requires-then-lacks_node-clause-begins g c = c.requires.begins

pub try_behind_turn_within-requires-then-lacks_node-clause-caller : goal.try_behind_turn_within-requires-then-lacks_node-clause-caller
try_behind_turn_within-requires-then-lacks_node-clause-caller g c =
    let at = goal.at.try_behind_turn_within-requires-then-lacks_node-clause-caller g c in
    let one = line g at.After-lacks_node (first g at.After-lacks_line) in
    subst (λ (l : Layout). c.args.caller < l.callers) (sym one.0.layout) c.requires.caller

pub try_behind_turn_within-requires-then-lacks_node-clause-spare : goal.try_behind_turn_within-requires-then-lacks_node-clause-spare
try_behind_turn_within-requires-then-lacks_node-clause-spare g c =
    let at = goal.at.try_behind_turn_within-requires-then-lacks_node-clause-spare g c in
    let one = line g at.After-lacks_node (first g at.After-lacks_line) in
    let back = back_node c.if-lacks_line.answer (sym c.lacks_node.ensures ∙ c.if-lacks_node.true) in
    stood_spare c.args.self.now c.if-lacks_line.self c.args.caller c.args.call c.if-lacks_line.answer back.0 one.0 back.1 c.requires.spare

pub try_within-requires-then-needs_split-clause-begins : goal.try_within-requires-then-needs_split-clause-begins
try_within-requires-then-needs_split-clause-begins g c = c.requires.begins

pub try_within-requires-then-needs_split-clause-caller : goal.try_within-requires-then-needs_split-clause-caller
try_within-requires-then-needs_split-clause-caller g c =
    let at = goal.at.try_within-requires-then-needs_split-clause-caller g c in
    let one = node g at.After-needs_split (line g at.After-lacks_node (first g at.After-lacks_line)) in
    subst (λ (l : Layout). c.args.caller < l.callers) (sym one.0.layout) c.requires.caller

pub returns-in_default-clause-events : goal.returns-in_default-clause-events
returns-in_default-clause-events g c = c.try_within.ensures.events

pub returns-in_default-clause-index : goal.returns-in_default-clause-index
returns-in_default-clause-index g c = c.try_within.ensures.index

pub returns-in_default-clause-reads : goal.returns-in_default-clause-reads
returns-in_default-clause-reads g c = c.try_within.ensures.reads

pub returns-in_default-clause-spent : goal.returns-in_default-clause-spent
returns-in_default-clause-spent g c = c.in_default.ensures.spent

pub returns-in_default-try_behind_turn_within-clause-events : goal.returns-in_default-try_behind_turn_within-clause-events
returns-in_default-try_behind_turn_within-clause-events g c = omega (arith, c.try_within.ensures.events, c.try_behind_turn_within.ensures.events)

pub returns-in_default-try_behind_turn_within-clause-index : goal.returns-in_default-try_behind_turn_within-clause-index
returns-in_default-try_behind_turn_within-clause-index g c = c.try_behind_turn_within.ensures.index

pub returns-in_default-try_behind_turn_within-clause-spent : goal.returns-in_default-try_behind_turn_within-clause-spent
returns-in_default-try_behind_turn_within-clause-spent g c = c.in_default-try_behind_turn_within.ensures.spent

pub returns-in_default-try_behind_turn_within-2-clause-events : goal.returns-in_default-try_behind_turn_within-2-clause-events
returns-in_default-try_behind_turn_within-2-clause-events g c =
    let before = line_events g (goal.at.returns-in_default-try_behind_turn_within-2-clause-events g c).After-lacks_node in
    let made = c.try_behind_turn_within-then-lacks_node.ensures.events in
    omega (arith, before, made)

pub returns-in_default-try_behind_turn_within-2-clause-index : goal.returns-in_default-try_behind_turn_within-2-clause-index
returns-in_default-try_behind_turn_within-2-clause-index g c = c.try_behind_turn_within-then-lacks_node.ensures.index

pub returns-in_default-try_behind_turn_within-2-clause-spent : goal.returns-in_default-try_behind_turn_within-2-clause-spent
returns-in_default-try_behind_turn_within-2-clause-spent g c = c.in_default-try_behind_turn_within-2.ensures.spent

pub returns-in_default-try_within-clause-index : goal.returns-in_default-try_within-clause-index
returns-in_default-try_within-clause-index g c = c.try_within-then-needs_split.ensures.index

pub returns-in_default-try_within-clause-spent : goal.returns-in_default-try_within-clause-spent
returns-in_default-try_within-clause-spent g c = c.in_default-try_within.ensures.spent

pub returns-in-Again-clause-index : goal.returns-in-Again-clause-index
returns-in-Again-clause-index g c = c.count_call.ensures.index

pub returns-in-Again-clause-spent : goal.returns-in-Again-clause-spent
returns-in-Again-clause-spent g c = λ none. absurd (false≢true (sym (ap is_some none)))
