-- Any call in flight, step by step.
use Rattle.std.specs.Prelude.{◌≡◌, ℕ, Option, Some, None}
use Rattle.pm_words.specs.declared.action.Action.{Action}
use Rattle.pm_words.specs.declared.machine.Turn.{Turn}
use Rattle.pm_words.specs.declared.machine.Turn.TheVariants.{Go, Done}
use Rattle.pm_words.specs.declared.layout.Layout.{Layout}
use Rattle.call_stages.specs.declared.once.Once.{Once}
use Rattle.call_stages.specs.declared.once.Placed.{Placed}
use Rattle.node_ops.specs.declared.call.Call.{Call}
use Rattle.node_ops.specs.declared.running.Running.{Running}
use Rattle.node_ops.specs.declared.running.Running.TheVariants.{Getting, Putting, Deleting, Parting}
use Rattle.node_ops.specs.Calls.{IsToldOf}
use Rattle.node_ops.specs.GetSteps.{IsGet, get_call, get_asks, get_turned, get_left}
use Rattle.node_ops.specs.PutSteps.{IsPut, put_call, put_asks, put_turned, put_leads, put_left}
use Rattle.node_ops.specs.DelSteps.{IsDel, del_call, del_asks, del_turned, del_leads, del_left}
use Rattle.node_ops.specs.declared.part.Part.{Part}
use Rattle.node_ops.specs.declared.part.PartWords.{PartWords}
use Rattle.node_ops.specs.PartSteps.{IsPart, part_call, part_asks, part_turned, part_left, part_count, part_listed}
use Rattle.node_ops.specs.PartSteps.{placed_turn}

-- what stays the same while it is made
abbrev pub running_call : Running → Call
running_call (Getting get) = get_call get
running_call (Putting put) = put_call put
running_call (Deleting del) = del_call del
running_call (Parting p) = part_call p

abbrev pub running_asks : Running → Action
running_asks (Getting get) = get_asks get
running_asks (Putting put) = put_asks put
running_asks (Deleting del) = del_asks del
running_asks (Parting p) = part_asks p

-- a part's turn, as the whole's
abbrev pub wrapped : {M : Type 0} → (M → Running) → Turn M (Once Placed) → Turn Running (Once Placed)
wrapped f (Go machine) = Go (f machine)
wrapped f (Done answer) = Done answer

-- that of a part of a range scan, which is answered as a get of its low name
abbrev pub wrapped_part : Turn Part (Once PartWords) → Turn Running (Once Placed)
wrapped_part turn = wrapped Parting (placed_turn turn)

abbrev pub running_turned : Running → ℕ → Turn Running (Once Placed)
running_turned (Getting get) got = wrapped Getting (get_turned get got)
running_turned (Putting put) got = wrapped Putting (put_turned put got)
running_turned (Deleting del) got = wrapped Deleting (del_turned del got)
running_turned (Parting p) got = wrapped_part (part_turned p got)

-- what its fields keep
abbrev pub IsRunning : Running → Type 0
IsRunning (Getting get) = IsGet get
IsRunning (Putting put) = IsPut put
IsRunning (Deleting del) = IsDel del
IsRunning (Parting p) = IsPart p

-- where a node is split, or merged with another, it leads to one of the layout's
abbrev pub running_leads : Running → ℕ → Type 0
running_leads (Getting get) got = Unit {0}
running_leads (Putting put) got = put_leads put got
running_leads (Deleting del) got = del_leads del got
running_leads (Parting p) got = Unit {0}

abbrev pub running_takes : Running → ℕ → Type 0
running_takes running got =
    IsRunning running × IsToldOf (running_call running) (running_asks running) got × running_leads running got

abbrev pub running_left : Running → ℕ
running_left (Getting get) = get_left get
running_left (Putting put) = put_left put
running_left (Deleting del) = del_left del
running_left (Parting p) = part_left p

-- what is known of a part, and of any other call this
abbrev pub of_part : {A : Type 0} → A → (Part → A) → Running → A
of_part other known (Getting get) = other
of_part other known (Putting put) = other
of_part other known (Deleting del) = other
of_part other known (Parting p) = known p

-- after a turn, where a call that is done is as one that is no part
abbrev pub of_part_after : {A : Type 0} → A → (Part → A) → Turn Running (Once Placed) → A
of_part_after other known (Go next) = of_part other known next
of_part_after other known (Done answer) = other

-- what a part tells that gives its node back next, if it is one
abbrev pub listed_in : Running → Option PartWords
listed_in running = of_part None part_listed running

-- how many names a part lists at most, if it is one
abbrev pub count_in : Running → Option ℕ
count_in running = of_part None (λ (p : Part). Some (part_count p)) running

-- a call in flight on the index of this layout, in this generation
pub record Sound (l : Layout) (g : ℕ) (running : Running) : Type 0 where
  pub layout : (running_call running).view.layout ≡ l
  pub generation : (running_call running).view.generation ≡ g
  pub here : IsRunning running
