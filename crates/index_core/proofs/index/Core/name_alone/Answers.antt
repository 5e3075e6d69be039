use Rattle.std.proofs.Common.{◌≡◌, ◌⊎◌, inl, inr, ℕ, ◌+◌, ◌<◌, ◌≤◌, length, true, false, sym, ap, ◌∙◌, subst, arith}
use Rattle.std.specs.Prelude.{Some}
use Rattle.call_stages.specs.declared.once.Once.{Once}
use Rattle.call_stages.specs.declared.once.Placed.{Placed}
use Rattle.pm_words.specs.declared.layout.Layout.{Layout}
use Rattle.index_core.specs.Indexes.{Index, IsIndex}
use Rattle.index_core.specs.Costs.{ActsWithin, TriesWithin}
use Rattle.index_core.specs.Lone.{HasNoCalls, IsQuiet, NeedsNoTurn, lacks_line, lacks_node, needs_split, whole_of}
use Rattle.index_core.proofs.Quiet.{quiet_is_still}
use Rattle.index_core.proofs.Costs.{needs_none}
use Rattle.index_core.proofs.InTime.{again_acts, try_in_time}
use Rattle.index_core.proofs.Alone.{ran_runs, ran_each, ran_locks, full_runs, full_again, counted_each, counted_locks, count_quiet}
use Rattle.index_core.proofs.Retrying.{HasItsLine, HasItsNode, RanAll, tried_first, line_at_once, line_behind_turn, node_at_once, node_behind_turn, node_history, node_layout, ran_once, ran_twice}
use Rattle.index_core.proofs.index.Core.name_alone.Goals as goal
use Rattle.index_core.proofs.index.Core.name_alone.Goals.{After-needs_split, then-lacks_line, else-lacks_line, then-lacks_node, else-lacks_node, then-needs_split, else-needs_split}

-- a log line isn't what it lacks any more
has_line : (g : _) (c : After-needs_split g) → HasItsLine c.args.self.now c.if-lacks_line.self c.args.caller c.args.call c.if-lacks_line.answer
has_line g c =
    let first = c.try_alone-answer.ensures in
    let tried = tried_first c.args.self.now c.try_alone-answer.new.self c.args.caller c.args.call c.try_alone-answer.result first.before (quiet_is_still c.args.caller c.args.self.now c.requires.quiet) first.tries first.each_lock first.locks in
    elim c.if-lacks_line.branch [
      | then-lacks_line w ↦ subst (λ (q : Index × Once Placed). HasItsLine c.args.self.now q.0 c.args.caller c.args.call q.1) (λ k. (sym w.self-is k, sym w.answer-is k))
          (line_behind_turn c.args.self.now _ _ c.args.caller c.args.call _ _ tried (sym c.lacks_line.ensures ∙ w.if-lacks_line.true) w.try_behind_turn-answer.ensures.tries c.requires.caller)
      | else-lacks_line w ↦ subst (λ (q : Index × Once Placed). HasItsLine c.args.self.now q.0 c.args.caller c.args.call q.1) (λ k. (sym w.self-is k, sym w.answer-is k))
          (line_at_once c.args.self.now _ c.args.caller c.args.call _ tried (sym c.lacks_line.ensures ∙ w.if-lacks_line.false))
    ]

-- nor is a node
has_node : (g : _) (c : After-needs_split g) → HasItsNode c.args.self.now c.if-lacks_node.self c.args.caller c.args.call c.if-lacks_node.answer
has_node g c = elim c.if-lacks_node.branch [
  | then-lacks_node w ↦ subst (λ (q : Index × Once Placed). HasItsNode c.args.self.now q.0 c.args.caller c.args.call q.1) (λ k. (sym w.self-is k, sym w.answer-is k))
      (node_behind_turn c.args.self.now _ _ c.args.caller c.args.call _ _ (has_line g c) (sym c.lacks_node.ensures ∙ w.if-lacks_node.true) w.try_behind_turn-answer-then-lacks_node.ensures.tries c.requires.caller)
  | else-lacks_node w ↦ subst (λ (q : Index × Once Placed). HasItsNode c.args.self.now q.0 c.args.caller c.args.call q.1) (λ k. (sym w.self-is k, sym w.answer-is k))
      (node_at_once c.args.self.now _ c.args.caller c.args.call _ (has_line g c) (sym c.lacks_node.ensures ∙ w.if-lacks_node.false))
]

-- the index is lawful still, and quiet
abbrev IsKept : Index → Type 0
IsKept s = IsIndex s × IsQuiet s

node_kept : (g : _) (c : After-needs_split g) → IsKept c.if-lacks_node.self
node_kept g c = elim c.if-lacks_node.branch [
  | then-lacks_node w ↦ subst IsKept (sym w.self-is) (w.try_behind_turn-answer-then-lacks_node.ensures.index, w.try_behind_turn-answer-then-lacks_node.ensures.quiet)
  | else-lacks_node w ↦ subst IsKept (sym w.self-is) (elim c.if-lacks_line.branch [
    | then-lacks_line v ↦ subst IsKept (sym v.self-is) (v.try_behind_turn-answer.ensures.index, v.try_behind_turn-answer.ensures.quiet)
    | else-lacks_line v ↦ subst IsKept (sym v.self-is) (c.try_alone-answer.ensures.index, c.try_alone-answer.ensures.quiet)
  ])
]

-- room for writes is left
abbrev HasRoom : Index → Index → Type 0
HasRoom s0 s = s0.spare + length s0.history ≤ s.spare + length s.history

node_room : (g : _) (c : After-needs_split g) → HasRoom c.args.self.now c.if-lacks_node.self
node_room g c =
    let first : HasRoom c.args.self.now c.try_alone-answer.new.self = c.try_alone-answer.ensures.spare in
    let line : HasRoom c.args.self.now c.if-lacks_line.self = elim c.if-lacks_line.branch [
      | then-lacks_line w ↦ subst (HasRoom c.args.self.now) (sym w.self-is) (let more = w.try_behind_turn-answer.ensures.spare in omega (arith, more, first))
      | else-lacks_line w ↦ subst (HasRoom c.args.self.now) (sym w.self-is) first
    ] in
    elim c.if-lacks_node.branch [
      | then-lacks_node w ↦ subst (HasRoom c.args.self.now) (sym w.self-is) (let more = w.try_behind_turn-answer-then-lacks_node.ensures.spare in omega (arith, more, line))
      | else-lacks_node w ↦ subst (HasRoom c.args.self.now) (sym w.self-is) line
    ]

pub try_alone-answer-requires-then-needs_split-clause-spare : goal.try_alone-answer-requires-then-needs_split-clause-spare
try_alone-answer-requires-then-needs_split-clause-spare g c =
    let at = (goal.at.try_alone-answer-requires-then-needs_split-clause-spare g c).After-needs_split in
    let same = ap length (node_history c.args.self.now c.if-lacks_node.self c.args.caller c.args.call c.if-lacks_node.answer (has_node g at) (sym c.needs_split.ensures ∙ c.if-needs_split.true)) in
    let room = node_room g at in
    let some = c.requires.spare in
    omega (arith, same, room, some)

pub count_call-requires-clause-party : goal.count_call-requires-clause-party
count_call-requires-clause-party g c =
    let at = (goal.at.count_call-requires-clause-party g c).After-needs_split in
    let node = node_layout c.args.self.now c.if-lacks_node.self c.args.caller c.args.call c.if-lacks_node.answer (has_node g at) in
    elim c.if-needs_split.branch [
      | then-needs_split w ↦ subst (λ (l : Layout). c.args.caller < l.callers) (sym (ap (λ (s : Index). s.layout) w.self-is ∙ w.try_alone-answer-then-needs_split.ensures.tries.layout ∙ node)) c.requires.caller
      | else-needs_split w ↦ subst (λ (l : Layout). c.args.caller < l.callers) (sym (ap (λ (s : Index). s.layout) w.self-is ∙ node)) c.requires.caller
    ]

pub returns-in-Again-clause-spare : goal.returns-in-Again-clause-spare
returns-in-Again-clause-spare g c =
    let room = node_room g (goal.at.returns-in-Again-clause-runs g c).After-needs_split in
    let all : HasRoom c.args.self.now c.if-needs_split.self = elim c.if-needs_split.branch [
      | then-needs_split w ↦ subst (HasRoom c.args.self.now) (sym w.self-is) (let more = w.try_alone-answer-then-needs_split.ensures.spare in omega (arith, more, room))
      | else-needs_split w ↦ subst (HasRoom c.args.self.now) (sym w.self-is) room
    ] in
    let same = ap (λ (s : Index). length s.history) c.count_call.ensures.counts.is in
    let kept = c.count_call.ensures.spare in
    omega (arith, all, same, kept)

-- some step is made already
node_acts : (g : _) (c : After-needs_split g) → c.args.steps.now < c.if-lacks_node.steps
node_acts g c =
    let first : c.args.steps.now < c.try_alone-answer.new.steps = c.try_alone-answer.ensures.acts in
    let line : c.args.steps.now < c.if-lacks_line.steps = elim c.if-lacks_line.branch [
      | then-lacks_line w ↦ omega (arith, w.steps-is, w.try_behind_turn-answer.ensures.acts, first)
      | else-lacks_line w ↦ omega (arith, w.steps-is, first)
    ] in
    elim c.if-lacks_node.branch [
      | then-lacks_node w ↦ omega (arith, w.steps-is, w.try_behind_turn-answer-then-lacks_node.ensures.acts, line)
      | else-lacks_node w ↦ omega (arith, w.steps-is, line)
    ]

-- what all tries leave, where the call was turned back, and where not
full_ran : (g : _) (c : goal.After-count_call g) → RanAll c.args.self.now c.if-needs_split.self c.args.caller c.args.call c.if-needs_split.answer
full_ran g c =
    let has = has_node g (goal.at.returns-in-Again-clause-runs g c).After-needs_split in
    let split = sym c.needs_split.ensures in
    elim c.if-needs_split.branch [
      | then-needs_split w ↦ subst (λ (q : Index × Once Placed). RanAll c.args.self.now q.0 c.args.caller c.args.call q.1) (λ k. (sym w.self-is k, sym w.answer-is k))
          (ran_twice c.args.self.now _ _ c.args.caller c.args.call _ _ c.requires.name has (split ∙ w.if-needs_split.true) w.try_alone-answer-then-needs_split.ensures.before w.try_alone-answer-then-needs_split.ensures.tries w.try_alone-answer-then-needs_split.ensures.each_lock w.try_alone-answer-then-needs_split.ensures.locks)
      | else-needs_split w ↦ subst (λ (q : Index × Once Placed). RanAll c.args.self.now q.0 c.args.caller c.args.call q.1) (λ k. (sym w.self-is k, sym w.answer-is k))
          (ran_once c.args.self.now _ c.args.caller c.args.call _ c.requires.name has (split ∙ w.if-needs_split.false))
    ]

tried_quiet : (g : _) (c : goal.After-count_call g) → IsQuiet c.if-needs_split.self
tried_quiet g c = elim c.if-needs_split.branch [
  | then-needs_split w ↦ subst IsQuiet (sym w.self-is) w.try_alone-answer-then-needs_split.ensures.quiet
  | else-needs_split w ↦ subst IsQuiet (sym w.self-is) (node_kept g (goal.at.returns-in-Again-clause-runs g c).After-needs_split).1
]

pub count_call-requires-clause-idle : goal.count_call-requires-clause-idle
count_call-requires-clause-idle g c = elim c.if-needs_split.branch [
  | then-needs_split w ↦ subst HasNoCalls (sym w.self-is) w.try_alone-answer-then-needs_split.ensures.quiet.calls
  | else-needs_split w ↦ subst HasNoCalls (sym w.self-is) (node_kept g (goal.at.count_call-requires-clause-idle g c).After-needs_split).1.calls
]

pub returns-in-Again-clause-runs : goal.returns-in-Again-clause-runs
returns-in-Again-clause-runs g c =
    let all = full_ran g c in
    full_runs c.args.self.now c.if-needs_split.self c.args.caller c.args.call c.if-needs_split.answer all.tries all.ran all.few (ap whole_of c.in-Again.is) c.count_call.new.self c.count_call.ensures.counts

pub returns-in-Again-clause-quiet : goal.returns-in-Again-clause-quiet
returns-in-Again-clause-quiet g c = count_quiet c.if-needs_split.self c.args.caller c.count_call.new.self (tried_quiet g c) c.count_call.ensures.counts

pub returns-in-Again-clause-locks : goal.returns-in-Again-clause-locks
returns-in-Again-clause-locks g c =
    let all = full_ran g c in
    counted_locks c.args.self.now c.if-needs_split.self c.args.caller c.args.call c.count_call.new.self c.count_call.ensures.counts (ran_locks _ _ _ _ _ all.tries all.ran all.few)

pub returns-in-Again-clause-each_lock : goal.returns-in-Again-clause-each_lock
returns-in-Again-clause-each_lock g c =
    let all = full_ran g c in
    counted_each c.args.self.now c.if-needs_split.self c.args.caller c.args.call c.count_call.new.self c.count_call.ensures.counts (ran_each _ _ _ _ _ all.tries all.ran all.few)

other_ran : (g : _) (c : goal.In_default g) → RanAll c.args.self.now c.if-needs_split.self c.args.caller c.args.call c.if-needs_split.answer
other_ran g c =
    let has = has_node g (goal.at.returns-in_default-clause-runs g c).After-needs_split in
    let split = sym c.needs_split.ensures in
    elim c.if-needs_split.branch [
      | then-needs_split w ↦ subst (λ (q : Index × Once Placed). RanAll c.args.self.now q.0 c.args.caller c.args.call q.1) (λ k. (sym w.self-is k, sym w.answer-is k))
          (ran_twice c.args.self.now _ _ c.args.caller c.args.call _ _ c.requires.name has (split ∙ w.if-needs_split.true) w.try_alone-answer-then-needs_split.ensures.before w.try_alone-answer-then-needs_split.ensures.tries w.try_alone-answer-then-needs_split.ensures.each_lock w.try_alone-answer-then-needs_split.ensures.locks)
      | else-needs_split w ↦ subst (λ (q : Index × Once Placed). RanAll c.args.self.now q.0 c.args.caller c.args.call q.1) (λ k. (sym w.self-is k, sym w.answer-is k))
          (ran_once c.args.self.now _ c.args.caller c.args.call _ c.requires.name has (split ∙ w.if-needs_split.false))
    ]

pub returns-in_default-clause-runs : goal.returns-in_default-clause-runs
returns-in_default-clause-runs g c =
    let all = other_ran g c in
    ran_runs c.args.self.now c.if-needs_split.self c.args.caller c.args.call c.if-needs_split.answer all.tries all.ran all.few (λ full. let again = full_again c.if-needs_split.answer full in c.in_default.not-Again again.0 again.1)

pub returns-in_default-clause-locks : goal.returns-in_default-clause-locks
returns-in_default-clause-locks g c = let all = other_ran g c in ran_locks _ _ _ _ _ all.tries all.ran all.few

pub returns-in_default-clause-each_lock : goal.returns-in_default-clause-each_lock
returns-in_default-clause-each_lock g c = let all = other_ran g c in ran_each _ _ _ _ _ all.tries all.ran all.few

pub returns-in_default-clause-quiet : goal.returns-in_default-clause-quiet
returns-in_default-clause-quiet g c = elim c.if-needs_split.branch [
  | then-needs_split w ↦ subst IsQuiet (sym w.self-is) w.try_alone-answer-then-needs_split.ensures.quiet
  | else-needs_split w ↦ subst IsQuiet (sym w.self-is) (node_kept g (goal.at.returns-in_default-clause-runs g c).After-needs_split).1
]

pub returns-in_default-clause-index : goal.returns-in_default-clause-index
returns-in_default-clause-index g c = elim c.if-needs_split.branch [
  | then-needs_split w ↦ subst IsIndex (sym w.self-is) w.try_alone-answer-then-needs_split.ensures.index
  | else-needs_split w ↦ subst IsIndex (sym w.self-is) (node_kept g (goal.at.returns-in_default-clause-index g c).After-needs_split).0
]

pub returns-in-Again-clause-acts : goal.returns-in-Again-clause-acts
returns-in-Again-clause-acts g c =
    let acts = node_acts g (goal.at.returns-in-Again-clause-runs g c).After-needs_split in
    elim c.if-needs_split.branch [
      | then-needs_split w ↦ omega (arith, w.steps-is, w.try_alone-answer-then-needs_split.ensures.acts, acts)
      | else-needs_split w ↦ omega (arith, w.steps-is, acts)
    ]

pub returns-in_default-clause-acts : goal.returns-in_default-clause-acts
returns-in_default-clause-acts g c =
    let acts = node_acts g (goal.at.returns-in_default-clause-runs g c).After-needs_split in
    elim c.if-needs_split.branch [
      | then-needs_split w ↦ omega (arith, w.steps-is, w.try_alone-answer-then-needs_split.ensures.acts, acts)
      | else-needs_split w ↦ omega (arith, w.steps-is, acts)
    ]

-- it is as its first try left it, and so many steps are made
abbrev FirstTry : (g : _) → After-needs_split g → Type 0
FirstTry g c = (c.if-lacks_node.self ≡ c.try_alone-answer.new.self) × (c.if-lacks_node.answer ≡ c.try_alone-answer.result) × (c.if-lacks_node.steps ≡ c.try_alone-answer.new.steps)

-- the call is as it was, or was made again
abbrev MadeAgain : (g : _) → After-needs_split g → ℕ → Type 0
MadeAgain g c steps =
    (steps ≡ c.if-lacks_node.steps)
    ⊎ ((needs_split c.if-lacks_node.answer ≡ true) × TriesWithin c.if-lacks_node.self c.args.call c.if-lacks_node.steps steps)

-- a call that needs no turn has made one try so far
at_first : (g : _) (c : After-needs_split g) → NeedsNoTurn c.args.caller c.args.call c.args.self.now → FirstTry g c
at_first g c none = elim c.if-lacks_node.branch [
  | then-lacks_node w ↦ absurd (let no : true ≡ false = sym (sym (c.lacks_node.ensures ∙ ap lacks_node line.1) ∙ w.if-lacks_node.true) ∙ needs.1 in cc)
  | else-lacks_node w ↦ (w.self-is ∙ line.0, w.answer-is ∙ line.1, w.steps-is ∙ line.2)
]
  where
    needs : (lacks_line c.try_alone-answer.result ≡ false) × (lacks_node c.try_alone-answer.result ≡ false)
    needs = needs_none c.args.self.now c.try_alone-answer.new.self c.args.caller c.args.call c.try_alone-answer.result c.try_alone-answer.ensures.before c.requires.quiet.calls c.try_alone-answer.ensures.tries none

    line : (c.if-lacks_line.self ≡ c.try_alone-answer.new.self) × (c.if-lacks_line.answer ≡ c.try_alone-answer.result) × (c.if-lacks_line.steps ≡ c.try_alone-answer.new.steps)
    line = elim c.if-lacks_line.branch [
      | then-lacks_line w ↦ absurd (let no : true ≡ false = sym (sym c.lacks_line.ensures ∙ w.if-lacks_line.true) ∙ needs.0 in cc)
      | else-lacks_line w ↦ (w.self-is, w.answer-is, w.steps-is)
    ]

-- and what it has made is few, whether it splits its node, and is made again, or not
few_acts : (g : _) (c : After-needs_split g) (answer : Once Placed) (steps : ℕ) → MadeAgain g c steps → ActsWithin c.args.self.now c.args.caller c.args.call c.args.steps.now steps
few_acts g c answer steps (inl same) short none =
    let at = at_first g c none in
    let few = try_in_time (Once Placed) c.args.self.now c.args.call (Some answer) 0 c.args.steps.now c.try_alone-answer.new.steps short c.try_alone-answer.ensures.events in
    omega (arith, few, same, at.2)
few_acts g c answer steps (inr again) short none =
    let at = at_first g c none in
    let first = c.try_alone-answer.ensures in
    let acts : c.args.steps.now < c.try_alone-answer.new.steps = first.acts in
    again_acts c.args.self.now c.try_alone-answer.new.self c.args.caller c.args.call c.try_alone-answer.result answer c.args.steps.now c.try_alone-answer.new.steps steps
    first.index first.quiet.calls first.tries (sym (ap needs_split at.1) ∙ again.0) (omega (arith, acts)) first.events
    (subst (λ (q : Index × ℕ). TriesWithin q.0 c.args.call q.1 steps) (λ k. (at.0 k, at.2 k)) again.1) short

pub returns-in-Again-clause-events : goal.returns-in-Again-clause-events
returns-in-Again-clause-events g c =
    let here = (goal.at.returns-in-Again-clause-runs g c).After-needs_split in
    let split = sym c.needs_split.ensures in
    few_acts g here c.if-needs_split.answer c.if-needs_split.steps (elim c.if-needs_split.branch [
      | then-needs_split w ↦ inr (split ∙ w.if-needs_split.true, subst (TriesWithin here.if-lacks_node.self here.args.call here.if-lacks_node.steps) (sym w.steps-is) w.try_alone-answer-then-needs_split.ensures.events)
      | else-needs_split w ↦ inl w.steps-is
    ])

pub returns-in_default-clause-events : goal.returns-in_default-clause-events
returns-in_default-clause-events g c =
    let here = (goal.at.returns-in_default-clause-runs g c).After-needs_split in
    let split = sym c.needs_split.ensures in
    few_acts g here c.if-needs_split.answer c.if-needs_split.steps (elim c.if-needs_split.branch [
      | then-needs_split w ↦ inr (split ∙ w.if-needs_split.true, subst (TriesWithin here.if-lacks_node.self here.args.call here.if-lacks_node.steps) (sym w.steps-is) w.try_alone-answer-then-needs_split.ensures.events)
      | else-needs_split w ↦ inl w.steps-is
    ])

pub try_alone-answer-requires-clause-caller : goal.try_alone-answer-requires-clause-caller
try_alone-answer-requires-clause-caller g c = c.requires.caller

pub try_alone-answer-requires-clause-begins : goal.try_alone-answer-requires-clause-begins
try_alone-answer-requires-clause-begins g c = c.requires.begins

pub try_alone-answer-requires-clause-spare : goal.try_alone-answer-requires-clause-spare
try_alone-answer-requires-clause-spare g c = c.requires.spare

pub try_alone-answer-requires-clause-quiet : goal.try_alone-answer-requires-clause-quiet
try_alone-answer-requires-clause-quiet g c = c.requires.quiet

pub returns-in_default-clause-spare : goal.returns-in_default-clause-spare
returns-in_default-clause-spare g c =
    let room = node_room g (goal.at.returns-in_default-clause-runs g c).After-needs_split in
    elim c.if-needs_split.branch [
      | then-needs_split w ↦ subst (HasRoom c.args.self.now) (sym w.self-is) (let more = w.try_alone-answer-then-needs_split.ensures.spare in omega (arith, more, room))
      | else-needs_split w ↦ subst (HasRoom c.args.self.now) (sym w.self-is) room
    ]

pub returns-in-Again-clause-index : goal.returns-in-Again-clause-index
returns-in-Again-clause-index g c = c.count_call.ensures.index
