-- What a call in flight has been told so far, as far as an answer that turns it back may rest on it.
use Rattle.std.specs.Prelude.{◌≡◌, ◌≢◌, ℕ, ◌+◌, List, ◌∷◌, [], ◌++◌, length, All, Contains}
use Rattle.std.specs.Prelude.{Option, Some, None}
use Rattle.pm_words.specs.declared.layout.Layout.{Layout}
use Rattle.pm_words.specs.declared.machine.Turn.{Turn}
use Rattle.pm_words.specs.declared.machine.Turn.TheVariants.{Go, Done}
use Rattle.pm_words.specs.Codes.{empty_state}
use Rattle.call_stages.specs.declared.once.Once.{Once}
use Rattle.call_stages.specs.declared.once.Placed.{Placed}
use Rattle.call_stages.specs.declared.view.View.{View}
use Rattle.smo_log.specs.declared.take.Take.{Take}
use Rattle.smo_log.specs.declared.take.TakeAt.{TakeAt}
use Rattle.smo_log.specs.declared.take.TakeAt.TheVariants as take_at
use Rattle.smo_log.specs.declared.take.Taken.{Taken}
use Rattle.smo_log.specs.declared.take.Taken.TheVariants as taken
use Rattle.pm_alloc.specs.declared.claim.Claim.{Claim}
use Rattle.pm_alloc.specs.declared.claim.ClaimAt.{ClaimAt}
use Rattle.pm_alloc.specs.declared.claim.ClaimAt.TheVariants as claim_at
use Rattle.pm_alloc.specs.declared.claim.Claimed.{Claimed}
use Rattle.pm_alloc.specs.declared.claim.Claimed.TheVariants as was
use Rattle.split_merge.specs.declared.splitting.Split.{Split}
use Rattle.split_merge.specs.declared.splitting.SplitAt.{SplitAt}
use Rattle.split_merge.specs.declared.splitting.SplitAt.TheVariants as split_at
use Rattle.split_merge.specs.declared.splitting.SplitDone.{SplitDone}
use Rattle.split_merge.specs.declared.splitting.SplitDone.TheVariants as split_done
use Rattle.data_list.specs.declared.walk.Walk.{Walk}
use Rattle.data_list.specs.declared.walk.WalkAt.{WalkAt}
use Rattle.data_list.specs.declared.walk.WalkAt.TheVariants as walk_at
use Rattle.data_list.specs.declared.target.Walked.{Walked}
use Rattle.data_list.specs.declared.target.Walked.TheVariants as walked
use Rattle.node_ops.specs.declared.lookup.Hold.{Hold}
use Rattle.node_ops.specs.declared.lookup.Lookup.{Lookup}
use Rattle.node_ops.specs.declared.lookup.LookupAt.{LookupAt}
use Rattle.node_ops.specs.declared.lookup.LookupAt.TheVariants as look
use Rattle.node_ops.specs.declared.lookup.Looked.{Looked}
use Rattle.node_ops.specs.declared.lookup.Looked.TheVariants as looked
use Rattle.node_ops.specs.declared.get.Get.{Get}
use Rattle.node_ops.specs.declared.get.Get.TheVariants as get
use Rattle.node_ops.specs.declared.part.Part.{Part}
use Rattle.node_ops.specs.declared.part.Part.TheVariants as part
use Rattle.node_ops.specs.declared.part.Way.{Way}
use Rattle.node_ops.specs.declared.part.Way.TheVariants as ways
use Rattle.node_ops.specs.declared.del.Del.{Del}
use Rattle.node_ops.specs.declared.del.Del.TheVariants as del
use Rattle.node_ops.specs.declared.put.Put.{Put}
use Rattle.node_ops.specs.declared.put.Put.TheVariants as put
use Rattle.node_ops.specs.declared.running.Running.{Running}
use Rattle.node_ops.specs.declared.running.Running.TheVariants.{Getting, Putting, Deleting, Parting}
use Rattle.node_ops.specs.declared.single_del.SingleDel.TheVariants as single_del
use Rattle.node_ops.specs.declared.single_put.SinglePut.{SinglePut}
use Rattle.node_ops.specs.declared.single_put.SinglePut.TheVariants as single_put
use Rattle.node_ops.specs.RunningSteps.{Sound, running_turned}
use Rattle.index_core.specs.declared.party.CoreCall.{CoreCall}
use Rattle.index_core.specs.CoreCalls.{machine_of}
use Rattle.index_core.specs.Causes.{FoundNoLine, AreInUse, FoundNoNode, HasCause, HasCauseIn}

-- The last so many numbers are states of lines that aren't EMPTY.
pub record EndsFull (told : List ℕ) (n : ℕ) : Type 0 where
  pub before : List ℕ
  pub states : List ℕ
  pub is : told ≡ before ++ states
  pub count : length states ≡ n
  pub full : All (λ (state : ℕ). state ≢ empty_state) states

abbrev pub TakeHasAt : List ℕ → ℕ → TakeAt → Type 0
TakeHasAt told index take_at.State = EndsFull told index
TakeHasAt told index (take_at.Fence fence) = Unit {0}

abbrev pub TakeHas : List ℕ → Take → Type 0
TakeHas told take = TakeHasAt told take.index take.at

abbrev pub TakeTold : List ℕ → Turn Take Taken → Type 0
TakeTold told (Go take) = TakeHas told take
TakeTold told (Done (taken.Line line)) = Unit {0}
TakeTold told (Done taken.Full) = FoundNoLine told

-- The last numbers are of the nodes from node 1 on to the one before this: none of these may be claimed.
pub record EndsInUse (g : ℕ) (told : List ℕ) (node : ℕ) : Type 0 where
  pub before : List ℕ
  pub nodes : List ℕ
  pub count : ℕ
  pub is : told ≡ before ++ nodes
  pub used : AreInUse g nodes count
  pub next : count + 1 ≡ node

-- It has loaded this version word last.
pub record EndsSeen (g : ℕ) (told : List ℕ) (node version : ℕ) : Type 0 where
  pub before : List ℕ
  pub is : told ≡ before ++ version ∷ []
  pub ends : EndsInUse g before node

abbrev pub ClaimHasAt : Layout → ℕ → List ℕ → ℕ → ClaimAt → Type 0
ClaimHasAt l g told node claim_at.Nowhere = l.nodes ≡ 1
ClaimHasAt l g told node claim_at.Version = EndsInUse g told node
ClaimHasAt l g told node (claim_at.Status version) = EndsSeen g told node version
ClaimHasAt l g told node (claim_at.Lock version locked) = Contains told version

abbrev pub ClaimHas : List ℕ → Claim → Type 0
ClaimHas told claim = ClaimHasAt claim.layout claim.generation told claim.node claim.at

abbrev pub ClaimTold : Layout → ℕ → List ℕ → Turn Claim Claimed → Type 0
ClaimTold l g told (Go claim) = ClaimHas told claim
ClaimTold l g told (Done (was.Node fresh word)) = Unit {0}
ClaimTold l g told (Done was.NoFree) = FoundNoNode l g told
ClaimTold l g told (Done (was.Again why)) = HasCause l g told why

abbrev pub SplitHas : Layout → ℕ → List ℕ → SplitAt → Type 0
SplitHas l g told split_at.Next = Unit {0}
SplitHas l g told (split_at.Take next take) = TakeHas told take
SplitHas l g told (split_at.Claim next line claim) = ClaimHas told claim
SplitHas l g told (split_at.Read share full count) = Unit {0}
SplitHas l g told (split_at.Move moving) = Unit {0}
SplitHas l g told (split_at.Refuse next why) = HasCause l g told why

abbrev pub SplitTold : Layout → ℕ → List ℕ → Turn Split SplitDone → Type 0
SplitTold l g told (Go split) = SplitHas l g told split.at
SplitTold l g told (Done (split_done.Done fresh)) = Unit {0}
SplitTold l g told (Done (split_done.Again why)) = HasCause l g told why

-- The walk was told the version word by which it goes.
abbrev pub WalkHas : List ℕ → WalkAt → Type 0
WalkHas told walk_at.Version = Unit {0}
WalkHas told (walk_at.Status version) = Contains told version
WalkHas told (walk_at.First version) = Contains told version
WalkHas told (walk_at.Second version first) = Contains told version
WalkHas told (walk_at.Third version first second) = Contains told version
WalkHas told (walk_at.Next version low) = Contains told version
WalkHas told (walk_at.HighFirst version low next) = Contains told version
WalkHas told (walk_at.HighSecond version low next first) = Contains told version
WalkHas told (walk_at.HighThird version low next first second) = Contains told version
WalkHas told walk_at.Prev = Unit {0}

abbrev pub WalkTold : List ℕ → Turn Walk Walked → Type 0
WalkTold told (Go walk) = WalkHas told walk.at
WalkTold told (Done (walked.Target target)) = Contains told target.version
WalkTold told (Done (walked.Again why)) = Unit {0}

-- What a call without a lock has of its node is the version word that it was told.
abbrev pub HoldHas : List ℕ → Option ℕ → Hold → Type 0
HoldHas told None hold = Contains told hold.locked
HoldHas told (Some limit) hold = Unit {0}

abbrev pub LookHas : List ℕ → Option ℕ → LookupAt → Type 0
LookHas told limit (look.Floor floor) = Unit {0}
LookHas told limit (look.Walk walk) = WalkHas told walk.at
LookHas told limit (look.Read seen) = Contains told seen.version
LookHas told limit (look.Lock seen locked) = Contains told seen.version
LookHas told limit (look.Clock locked) = Unit {0}
LookHas told limit (look.Spent hold) = Unit {0}
LookHas told limit (look.Bitmap hold) = HoldHas told limit hold
LookHas told limit (look.Prints hold bitmap prints k) = HoldHas told limit hold
LookHas told limit (look.Name hold directory left slot k) = HoldHas told limit hold
LookHas told limit (look.Value hold directory slot) = HoldHas told limit hold

-- After a turn of a look-up with this limit.
abbrev pub LookTold : Layout → ℕ → List ℕ → Option ℕ → Turn Lookup Looked → Type 0
LookTold l g told limit (Go lookup) = LookHas told lookup.call.limit lookup.at
LookTold l g told limit (Done (looked.Early answer)) = HasCauseIn l g told answer
LookTold l g told limit (Done (looked.Found found)) = HoldHas told limit found.hold

abbrev pub SinglePutHas : List ℕ → SinglePut → Type 0
SinglePutHas told (single_put.Looking lookup value) = LookHas told lookup.call.limit lookup.at
SinglePutHas told (single_put.Filling fill) = Unit {0}
SinglePutHas told (single_put.Replacing call hold bitmap hit value) = Unit {0}
SinglePutHas told (single_put.Finishing finish) = Unit {0}

abbrev pub PutHas : Layout → ℕ → List ℕ → Put → Type 0
PutHas l g told (put.Single single) = SinglePutHas told single
PutHas l g told (put.Splitting call hold bitmap value split) = SplitHas l g told split.at

abbrev pub DelHas : List ℕ → Del → Type 0
DelHas told (del.Single (single_del.Looking lookup)) = LookHas told lookup.call.limit lookup.at
DelHas told (del.Single (single_del.Next call hold bitmap hit)) = Unit {0}
DelHas told (del.Single (single_del.Taking call hold bitmap hit take)) = TakeHas told take
DelHas told (del.Single (single_del.Refusing call hold bitmap hit)) = FoundNoLine told
DelHas told (del.Single (single_del.Clearing call hold bitmap hit line)) = Unit {0}
DelHas told (del.Single (single_del.Finishing finish line)) = Unit {0}
DelHas told (del.Merging call hold old place merge) = Unit {0}

abbrev pub GetHas : List ℕ → Get → Type 0
GetHas told (get.Looking lookup) = LookHas told lookup.call.limit lookup.at
GetHas told (get.Checking call hold old) = Contains told hold.locked

-- A part without a lock was told the version word that it saw.
abbrev pub WayHas : List ℕ → Way → ℕ → Type 0
WayHas told (ways.Held words) word = Unit {0}
WayHas told _ word = Contains told word

abbrev pub PartHas : List ℕ → Part → Type 0
PartHas told (part.Looking lookup count) = LookHas told lookup.call.limit lookup.at
PartHas told (part.Ordering call seen count load) = Contains told seen.version
PartHas told (part.Locking call seen count locked) = Contains told seen.version
PartHas told (part.Dating call seen count way) = Contains told seen.version
PartHas told (part.Reading reading) = WayHas told reading.way reading.hold.locked

-- What a call in flight has been told.
abbrev pub RunningHas : Layout → ℕ → List ℕ → Running → Type 0
RunningHas l g told (Getting m) = GetHas told m
RunningHas l g told (Putting m) = PutHas l g told m
RunningHas l g told (Deleting m) = DelHas told m
RunningHas l g told (Parting m) = PartHas told m

-- And one that goes on, or is answered.
abbrev pub RunningTold : Layout → ℕ → List ℕ → Turn Running (Once Placed) → Type 0
RunningTold l g told (Go m) = RunningHas l g told m
RunningTold l g told (Done answer) = HasCauseIn l g told answer

-- A call that begins has been told nothing. A step adds the number that it gives, and an answer has its cause in them.
abbrev pub HearsOn : Layout → ℕ → Running → ℕ → Type 0
HearsOn l g machine x = (numbers : List ℕ) → RunningHas l g numbers machine →
    RunningTold l g (numbers ++ x ∷ []) (running_turned machine x)

abbrev pub CallsBeginUntold : Type 0
CallsBeginUntold = (l : Layout) (g : ℕ) (v : View) (c : CoreCall) → RunningHas l g [] (machine_of v c)

abbrev pub CallsHear : Type 0
CallsHear = (l : Layout) (g : ℕ) (machine : Running) (x : ℕ) → Sound l g machine → HearsOn l g machine x
