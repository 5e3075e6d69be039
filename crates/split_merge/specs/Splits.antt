-- The split of a full node, step by step.
use Rattle.std.specs.Prelude.{◌≡◌, ◌≢◌, ℕ, ◌+◌, ◌-◌, ◌*◌, ◌/◌, ◌^◌, ◌<◌, ◌⊎◌, nat_lt, if◌then◌else◌, List, length}
use Rattle.std.specs.Prelude.{take, slice_index, slice_set, replicate}
use Rattle.pm_words.specs.declared.action.Action.{Action}
use Rattle.pm_words.specs.declared.action.Action.TheVariants.{Load, Store}
use Rattle.pm_words.specs.declared.again.Again.TheVariants as again
use Rattle.pm_words.specs.declared.machine.Turn.{Turn}
use Rattle.pm_words.specs.declared.machine.Turn.TheVariants.{Go, Done}
use Rattle.pm_words.specs.Offsets.{next_offset}
use Rattle.call_stages.specs.Kinds.{word_address, version_address, IsRefusal, Told}
use Rattle.pm_alloc.specs.declared.claim.Claim.{Claim}
use Rattle.pm_alloc.specs.declared.claim.Claimed.{Claimed}
use Rattle.pm_alloc.specs.declared.claim.Claimed.TheVariants as was
use Rattle.pm_alloc.specs.Claims.{IsClaim, claim_from, claim_asks, claim_turned, claim_left}
use Rattle.smo_log.specs.declared.take.Take.{Take}
use Rattle.smo_log.specs.declared.take.Taken.{Taken}
use Rattle.smo_log.specs.declared.take.Taken.TheVariants as got
use Rattle.smo_log.specs.LogLines.{caller_of}
use Rattle.smo_log.specs.Takes.{IsTake, take_from, take_asks, take_turned, take_left}
use Rattle.call_stages.specs.declared.view.View.{View}
use Rattle.call_stages.specs.Views.{IsView}
use Rattle.split_merge.specs.declared.planning.Plan.{Plan}
use Rattle.split_merge.specs.declared.moving.Move.{Move}
use Rattle.split_merge.specs.declared.moving.MoveAt.TheVariants as move
use Rattle.split_merge.specs.declared.splitting.Share.{Share}
use Rattle.split_merge.specs.declared.splitting.Split.{Split}
use Rattle.split_merge.specs.declared.splitting.SplitAt.{SplitAt}
use Rattle.split_merge.specs.declared.splitting.SplitAt.TheVariants as at
use Rattle.split_merge.specs.declared.splitting.SplitDone.{SplitDone}
use Rattle.split_merge.specs.declared.splitting.SplitDone.TheVariants as answer
use Rattle.split_merge.specs.Plans.{IsHalf, order_of, moved_of, least_words, anchor_of, bits_of}
use Rattle.version_lock.specs.Versions.{IsLockWord}
use Rattle.split_merge.specs.Moves.{IsMove, move_asks, move_turned, move_left}

abbrev pub split_from : View → ℕ → ℕ → Split
split_from view node word = record { view = view; node = node; word = word; at = at.Next }

-- the full node's words of which only where it leads is loaded
abbrev pub full_from : ℕ → List ℕ
full_from next = slice_set (replicate 272 0) next_offset next

-- how many words from the fingerprints on a node has
abbrev pub word_count : View → ℕ
word_count view = 8 + 4 * view.layout.slots

-- what it is to do, where these are the full node's words
abbrev pub plan_of : Split → Share → List ℕ → Plan
plan_of split share full = record {
  layout = split.view.layout;
  node = split.node;
  locked = split.word;
  share = share;
  full = full;
  moved = moved_of (order_of full split.view.layout.slots) (split.view.layout.slots / 2);
  anchor = anchor_of (least_words full split.view.layout.slots);
  keep = bits_of (take (split.view.layout.slots / 2) (order_of full split.view.layout.slots));
}

abbrev pub move_from : Plan → Move
move_from plan = record { plan = plan; at = move.Slot 0 }

abbrev pub split_at_asks : Split → SplitAt → Action
split_at_asks split at.Next = Load (word_address split.view.layout split.node next_offset)
split_at_asks split (at.Take next take) = take_asks take
split_at_asks split (at.Claim next line claim) = claim_asks claim
split_at_asks split (at.Read share full count) = Load (word_address split.view.layout split.node (8 + count))
split_at_asks split (at.Move moving) = move_asks moving
split_at_asks split (at.Refuse next why) = Store (version_address split.view.layout split.node) (split.word + 1)

abbrev pub split_asks : Split → Action
split_asks split = split_at_asks split split.at

-- it goes on there
abbrev pub splits_on : Split → SplitAt → Turn Split SplitDone
splits_on split at = Go (record split { at = at })

abbrev pub taken : Split → ℕ → Turn Take Taken → Turn Split SplitDone
taken split next (Go take) = splits_on split (at.Take next take)
taken split next (Done (got.Line line)) =
    splits_on split (at.Claim next line (claim_from split.view.layout split.view.generation))
taken split next (Done got.Full) = splits_on split (at.Refuse next again.LogFull)

abbrev pub claimed : Split → ℕ → ℕ → Turn Claim Claimed → Turn Split SplitDone
claimed split next line (Go claim) = splits_on split (at.Claim next line claim)
claimed split next line (Done (was.Node fresh word)) =
    splits_on split (at.Read (record { line = line; fresh = fresh; locked = word }) (full_from next) 0)
claimed split next line (Done was.NoFree) = splits_on split (at.Refuse next again.NoFree)
claimed split next line (Done (was.Again why)) = splits_on split (at.Refuse next why)

-- it has one word more, and after the last it knows what to do
abbrev pub has_read : Split → Share → List ℕ → ℕ → ℕ → Turn Split SplitDone
has_read split share full count word =
    if nat_lt (count + 1) (word_count split.view)
    then splits_on split (at.Read share (slice_set full (8 + count) word) (count + 1))
    else splits_on split (at.Move (move_from (plan_of split share (slice_set full (8 + count) word))))

abbrev pub moved : Split → ℕ → Turn Move (Unit {0}) → Turn Split SplitDone
moved split fresh (Go moving) = splits_on split (at.Move moving)
moved split fresh (Done nothing) = Done (answer.Done fresh)

abbrev pub split_at_turned : Split → SplitAt → ℕ → Turn Split SplitDone
split_at_turned split at.Next got =
    splits_on split (at.Take got (take_from split.view.layout split.view.caller))
split_at_turned split (at.Take next take) got = taken split next (take_turned take got)
split_at_turned split (at.Claim next line claim) got = claimed split next line (claim_turned claim got)
split_at_turned split (at.Read share full count) got = has_read split share full count got
split_at_turned split (at.Move moving) got = moved split moving.plan.share.fresh (move_turned moving got)
split_at_turned split (at.Refuse next why) got = Done (answer.Again why)

abbrev pub split_turned : Split → ℕ → Turn Split SplitDone
split_turned split got = split_at_turned split split.at got

-- the words of a node of the largest layout
pub record AreWords (full : List ℕ) : Type 0 where
  pub size : length full ≡ 272
  pub fits : (offset : ℕ) → slice_index full offset < 2 ^ 64

-- a line of the caller
abbrev pub IsOwnLine : View → ℕ → Type 0
IsOwnLine view line = (caller_of line ≡ view.caller) × (line < 8 * view.layout.callers)

-- it has a line of its caller, and holds the fresh node, which isn't node 0
pub record IsShare (view : View) (share : Share) : Type 0 where
  pub line : IsOwnLine view share.line
  pub fresh : share.fresh < view.layout.nodes
  pub positive : share.fresh ≢ 0
  pub lock : IsLockWord share.locked

-- the plan is that of a split of this node, made of the words that it has
pub record IsPlanOf (view : View) (node word : ℕ) (plan : Plan) : Type 0 where
  pub layout : plan.layout ≡ view.layout
  pub node_is : plan.node ≡ node
  pub locked : plan.locked ≡ word
  pub caller : caller_of plan.share.line ≡ view.caller
  pub half : IsHalf plan
  pub words : AreWords plan.full

abbrev pub IsSplitAt : View → ℕ → ℕ → SplitAt → Type 0
IsSplitAt view node word at.Next = Unit {0}
IsSplitAt view node word (at.Take next take) = (next < view.layout.nodes) × IsTake take ×
    (take.layout ≡ view.layout) × (take.caller ≡ view.caller)
IsSplitAt view node word (at.Claim next line claim) = (next < view.layout.nodes) × IsOwnLine view line ×
    IsClaim claim × (claim.layout ≡ view.layout) × (claim.generation ≡ view.generation)
IsSplitAt view node word (at.Read share full count) = IsShare view share × AreWords full ×
    (slice_index full 2 < view.layout.nodes) × (count < word_count view)
IsSplitAt view node word (at.Move moving) = IsMove moving × IsPlanOf view node word moving.plan
IsSplitAt view node word (at.Refuse next why) = IsRefusal why ⊎ (why ≡ again.NoFree)

-- what its fields keep
pub record IsSplit (split : Split) : Type 0 where
  pub view : IsView split.view
  pub node : split.node < split.view.layout.nodes
  pub lock : IsLockWord split.word
  pub here : IsSplitAt split.view split.node split.word split.at

-- the node leads to one of the layout's
abbrev pub LeadsIn : Split → SplitAt → ℕ → Type 0
LeadsIn split at.Next word = word < split.view.layout.nodes
LeadsIn split _ word = Unit {0}

abbrev pub split_takes : Split → ℕ → Type 0
split_takes split word = IsSplit split × Told split.view.layout split.view.generation (split_asks split) word ×
    LeadsIn split split.at word

-- how many actions it makes at most from here on
abbrev pub split_at_left : Split → SplitAt → ℕ
split_at_left split at.Next = 30000
split_at_left split (at.Take next take) = 20000 + take_left take
split_at_left split (at.Claim next line claim) = 3000 + claim_left claim
split_at_left split (at.Read share full count) = 2000 + (word_count split.view - count)
split_at_left split (at.Move moving) = move_left moving
split_at_left split (at.Refuse next why) = 1

abbrev pub split_left : Split → ℕ
split_left split = split_at_left split split.at
