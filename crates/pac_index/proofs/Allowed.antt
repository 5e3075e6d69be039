-- Each step of a machine keeps the table's rule, by the core's law on a step of a party's machine.
use Rattle.std.proofs.Common.{◌≡◌, ◌≢◌, ℕ, ◌+◌, ◌<◌, ◌≤◌, ◌%◌, ◌^◌, ◌⊎◌, inl, ⊎_elim, true, List, [], ◌∷◌, ◌++◌, length, set, refl, sym, ap, ◌∙◌, subst, arith}
use Rattle.std.specs.Prelude.{Option, Some, None, IfSome, slice_index}
use mathlib.Core.Option.{some}
use lib.ListN.{get_elem?}
use Rattle.cat_history.specs.Maps.{map_of}
use Rattle.cat_history.specs.declared.op.Change.{Change}
use Rattle.cat_history.specs.declared.op.Write.{Write}
use Rattle.pm_words.specs.declared.action.Action.{Action}
use Rattle.pm_words.specs.declared.action.Action.TheVariants.{Load, Store, Exchange, Add, Drain}
use Rattle.pm_words.specs.declared.layout.Layout.{Layout}
use Rattle.pm_words.specs.declared.machine.Turn.{Turn}
use Rattle.pm_words.specs.declared.machine.Turn.TheVariants.{Go, Done}
use Rattle.pm_words.specs.Locations.{row_words}
use Rattle.pm_words.specs.Rows.{given, action_address, word_after, CanChange, MayName}
use Rattle.call_stages.specs.declared.once.Once.{Once}
use Rattle.call_stages.specs.declared.once.Placed.{Placed}
use Rattle.call_stages.specs.Stages.{counted}
use Rattle.node_ops.specs.declared.running.Running.{Running}
use Rattle.node_ops.specs.Asked.{op_in}
use Rattle.node_ops.specs.RunningSteps.{running_asks, running_turned, running_call, IsRunning, Sound}
use Rattle.node_ops.specs.CallStages.{stage_of, reply_of}
use Rattle.index_law.specs.Worlds.{facts, written}
use Rattle.index_law.specs.Laws.{Counts}
use Rattle.index_law.proofs.Parties.{at_set, set_here, set_else}
use Rattle.index_core.specs.declared.party.CoreCall.{CoreCall}
use Rattle.index_core.specs.declared.party.PartyState.{PartyState}
use Rattle.index_core.specs.Answers.{SaysOf}
use Rattle.index_core.specs.CoreCalls.{machine_of}
use Rattle.index_core.specs.PartyStates.{state_with, state_after}
use Rattle.index_core.specs.MachineLaws.{ReadyAfter, showing, showing_after}
use Rattle.cat_history.specs.declared.op.NameOp.{NameOp}
use Rattle.index_law.specs.Weights.{weight_sum}
use Rattle.index_core.specs.Indexes.{Index, IsIndex, world, view_of, started_index, stepped_index}
use Rattle.index_core.proofs.Lists.{set_twice, some_same}
use Rattle.index_core.proofs.CrashLaws.{placed_are_timely}
use Rattle.index_core.proofs.MachineLaw.{machine_law, begin_law}
use Rattle.atomic_table.specs.Table.{State, Me, keeps}
use Rattle.epochs.proofs.Lists.{alone}
use Rattle.epochs.proofs.ViewSums.{in_set, in_two}
use Rattle.pac_index.specs.declared.rule.About.{About}
use Rattle.pac_index.specs.declared.rule.AnsweredPart.{AnsweredPart}
use Rattle.pac_index.specs.declared.rule.Member.{Member}
use Rattle.pac_index.specs.Kept.{AllKnow, IsPartKnown, KnowsParts, answered_now}
use Rattle.pac_index.specs.Kept.{index_of, placed_by, noted, Fits, AllFit, added_of, one_of, times_in, times_in_all, IsHalfPaid, AllPaid, Kept, added_now, Goes, GoesTimely, ListsNow, Tells, Starts, May, party, IsLone, machine_in, calling}
use Rattle.pac_index.proofs.Known.{answered_known, each_both, known_on}
use Rattle.pac_index.proofs.PartRuns.{lists_now}
use Rattle.pac_index.proofs.Lists.{begins_more, begins_self, begins_le, placed_append, own_placed, others_keep, times_there}

after_caller : (e : PartyState) (turn : Turn Running (Once Placed)) → (state_after e turn).caller ≡ e.caller
after_caller e (Go m) = refl
after_caller e (Done answer) = refl

-- what a party shows after a turn, with what that added
showing_is : (e : PartyState) (o : NameOp) (turn : Turn Running (Once Placed)) → showing_after o turn ≡ added_now o turn + showing (state_after e turn).machine
showing_is e o (Go m) = omega arith
showing_is e o (Done answer) = omega arith

-- the write that a step counts has the place that it was told
told_place : (l : Layout) (n x c i : ℕ) (a : Action) (o : Option Change) → Counts l n a x o → noted n (written c i o) ≡ noted x (written c i o)
told_place l n x c i a None counts = refl
told_place l n x c i a (Some change) counts = ap (λ (k : ℕ). noted k (written c i (Some change))) (sym counts.1)

-- what a party knows is kept where another one's state changes and the history grows by that one's writes
grown : (about : About) (states : List PartyState) (h : List Write) (e now : PartyState) (o : Option Change) (u : Member) → e.caller ≢ u.state.caller → Fits about states h u
    → Fits about (set states e.caller now) (h ++ written e.caller e.index o) u
grown about states h e now o u apart f = record {
  same = f.same;
  there = set_else states e.caller u.state.caller now (λ same. apart (sym same)) ∙ f.there;
  seen = begins_more u.seen h (written e.caller e.index o) f.seen;
  own = others_keep u.state.caller e.caller e.index h o apart ∙ f.own;
}

-- and is kept where the history stays
pub stayed : (about : About) (states : List PartyState) (h : List Write) (c : ℕ) (now : PartyState) (u : Member) → c ≢ u.state.caller → Fits about states h u → Fits about (set states c now) h u
stayed about states h c now u apart f = record {
  same = f.same;
  there = set_else states c u.state.caller now (λ same. apart (sym same)) ∙ f.there;
  seen = f.seen;
  own = f.own;
}

-- two parties of two seats have two numbers
apart : (n : ℕ) (views : List (List Member)) (i j : ℕ) (v u : Member) (view : List Member) (k : ℕ) → times_in_all n views ≤ 1 → v.state.caller ≡ n → get_elem? views i ≡ some (v ∷ []) → j ≢ i → get_elem? views j ≡ some view → get_elem? view k ≡ some u
    → n ≢ u.state.caller
apart n views i j v u view k once mine at other there here same =
    let two = in_two (one_of n) views i j (v ∷ []) view (λ e. other (sym e)) at there in
    let one = times_there n (v ∷ []) 0 v refl mine in
    let more = times_there n view k u here (sym same) in
    omega arith

-- One party steps: its state, what it knows and the words are others then, and of the rest no more than that the history
-- has grown.
pub moved : (about : About) (id : ℕ) (v w : Member) (words : List ℕ) (history : List Write) (s : State (Unit {0}) (List Member)) (kept : Kept about s) → get_elem? s.views id ≡ some (v ∷ []) → w.state.caller ≡ v.state.caller
    → IsIndex (index_of about words (set kept.states v.state.caller w.state) history) → Fits about (set kept.states v.state.caller w.state) history w
    → ((u : Member) → v.state.caller ≢ u.state.caller → Fits about kept.states kept.history u → Fits about (set kept.states v.state.caller w.state) history u)
    → weight_sum (world (index_of about words (set kept.states v.state.caller w.state) history)) + (v.added + showing v.state.machine) ≤ weight_sum (world (index_of about s.words kept.states kept.history)) + (w.added + showing w.state.machine)
    → v.added + showing v.state.machine ≤ w.added + showing w.state.machine → (w.none_free ≡ true → (v.none_free ≡ true) ⊎ IsHalfPaid about s.views)
    → ((a : AnsweredPart) → IsPartKnown (index_of about s.words kept.states kept.history) a → IsPartKnown (index_of about words (set kept.states v.state.caller w.state) history) a) → KnowsParts (index_of about words (set kept.states v.state.caller w.state) history) w
    → Kept about (record { words = words; homes = s.homes; views = set s.views id (w ∷ []) })
moved about id v w words history s kept at caller index fit others weighs more paid still_known own_known =
    let states = set kept.states v.state.caller w.state in
    let views : List (List Member) = set s.views id (w ∷ []) in
    let still : IsHalfPaid about s.views → IsHalfPaid about views = (λ was. let after = in_set added_of s.views id (v ∷ []) (w ∷ []) at in omega arith) in
    record {
      states = states;
      history = history;
      index = index;
      fits = λ j view there. ⊎_elim
          (λ (t : (j ≡ id) × (w ∷ [] ≡ view)). subst (AllFit about states history) t.1 (alone (Fits about states history) w fit))
          (λ (t : (j ≢ id) × (get_elem? s.views j ≡ some view)) k u here. others u (apart v.state.caller s.views id j v u view k (kept.once v.state.caller) refl at t.0 t.1 here) (kept.fits j view t.1 k u here))
          (at_set s.views id j (w ∷ []) view there);
      once = λ number. let moved = in_set (one_of number) s.views id (v ∷ []) (w ∷ []) at in let before = kept.once number in let alike = ap (λ (k : ℕ). times_in number (record w { state = record w.state { caller = k } } ∷ [])) caller in omega arith;
      weight = let after = in_set added_of s.views id (v ∷ []) (w ∷ []) at in let before = kept.weight in omega arith;
      full = λ j view there. ⊎_elim
          (λ (t : (j ≡ id) × (w ∷ [] ≡ view)). subst (AllPaid about views) t.1 (alone (λ (m : Member). m.none_free ≡ true → IsHalfPaid about views) w
          (λ noted. ⊎_elim (λ was. still (kept.full id (v ∷ []) at 0 v refl was)) (λ now. still now) (paid noted))))
          (λ (t : (j ≢ id) × (get_elem? s.views j ≡ some view)) k u here noted. still (kept.full j view t.1 k u here noted))
          (at_set s.views id j (w ∷ []) view there);
      known = λ j view there. ⊎_elim
          (λ (t : (j ≡ id) × (w ∷ [] ≡ view)). subst (AllKnow (index_of about words states history)) t.1 (alone (KnowsParts (index_of about words states history)) w own_known))
          (λ (t : (j ≢ id) × (get_elem? s.views j ≡ some view)) k u here n a part. still_known a (kept.known j view t.1 k u here n a part))
          (at_set s.views id j (w ∷ []) view there);
    }

-- What a seat's step with this action leaves of the table's rule: the party that the seat has then, and what that shows.
pub record Leaves (about : About) (s : State (Unit {0}) (List Member)) (id : ℕ) (action : Action) (f : ℕ → ℕ) (shows : ℕ → Member → Type 0) : Type 0 where
  pub now : Member
  pub kept : Kept about (record { words = set s.words (action_address about.layout action) (f (slice_index s.words (action_address about.layout action))); homes = s.homes; views = set s.views id (now ∷ []) })
  pub goes : shows (given action (slice_index s.words (action_address about.layout action))) now

-- Whatever the table is, the seat may do an action whose steps leave its rule.
pub may : (about : About) (words slots id : ℕ) (me : Me (Unit {0}) (List Member)) (action : Action) (shows : ℕ → Member → Type 0) (tells : Me (Unit {0}) (List Member) → ℕ → Me (Unit {0}) (List Member) → Type 0) → IsLone me → action_address about.layout action < words
    → ((found : ℕ) (after : Me (Unit {0}) (List Member)) → IsLone after → shows (given action found) (party after) → tells me found after)
    → ((f : ℕ → ℕ) → ((n : ℕ) → n < 2 ^ 64 → CanChange action n → f n ≡ word_after action n) → (s : State (Unit {0}) (List Member)) → Kept about s → get_elem? s.views id ≡ some (party me ∷ []) → slice_index s.words (action_address about.layout action) < 2 ^ 64
    → Leaves about s id action f shows)
    → May about words slots id me action tells
may about words slots id me action shows tells lone within tell leaves = (
  within,
  λ f told same gives s kept count at fits.
      let n = slice_index s.words (action_address about.layout action) in
      let d = leaves f same s kept (at ∙ ap (λ (q : Me (Unit {0}) (List Member)). some q.0) lone) fits in (
        d.now ∷ [],
        keeps,
        tt,
        d.kept,
        tell (told n) (d.now ∷ [], me.1) (ap (λ (q : Me (Unit {0}) (List Member)). (d.now ∷ [], q.1)) lone) (subst (λ (x : ℕ). shows x d.now) (sym (gives n)) d.goes),
      ),
)

-- So it goes on with what its party has in flight, of which this is the next action.
module _ {A : Type 0} (asks : A → Action) (flying : Member → Option A) (goes : A → Member → ℕ → Member → Type 0) where
  pub may_go_on : (about : About) (words slots id : ℕ) (me : Me (Unit {0}) (List Member)) (tells : Me (Unit {0}) (List Member) → ℕ → Me (Unit {0}) (List Member) → Type 0) (m : A) → IsLone me → flying (party me) ≡ Some m → action_address about.layout (asks m) < words
      → ((found : ℕ) (after : Me (Unit {0}) (List Member)) → ((n : A) → flying (party me) ≡ Some n → IsLone after × goes n (party me) (given (asks n) found) (party after)) → tells me found after)
      → ((f : ℕ → ℕ) → ((n : ℕ) → n < 2 ^ 64 → CanChange (asks m) n → f n ≡ word_after (asks m) n) → (s : State (Unit {0}) (List Member)) → Kept about s → get_elem? s.views id ≡ some (party me ∷ []) → slice_index s.words (action_address about.layout (asks m)) < 2 ^ 64
      → Leaves about s id (asks m) f (goes m (party me)))
      → May about words slots id me (asks m) tells
  may_go_on about words slots id me tells m lone is within tell leaves =
      may about words slots id me (asks m) (goes m (party me)) tells lone within
      (λ found after alone went. tell found after (λ n is'. (
        alone,
        subst (λ (x : A). goes x (party me) (given (asks x) found) (party after)) (some_same (sym is ∙ is')) went,
      )))
      leaves

-- The same where the party begins with the step: its seat has had it as it begins.
pub leaves_first : (about : About) (s : State (Unit {0}) (List Member)) (id : ℕ) (action : Action) (f : ℕ → ℕ) (begun : Member) (shows shown : ℕ → Member → Type 0) → ((x : ℕ) (w : Member) → shows x w → shown x w)
    → Leaves about (record { words = s.words; homes = s.homes; views = set s.views id (begun ∷ []) }) id action f shows → Leaves about s id action f shown
leaves_first about s id action f begun shows shown on d =
    let place = action_address about.layout action in
    record {
      now = d.now;
      kept = subst (λ (l : List (List Member)). Kept about (record { words = set s.words place (f (slice_index s.words place)); homes = s.homes; views = l })) (set_twice s.views id (begun ∷ []) (d.now ∷ [])) d.kept;
      goes = on (given action (slice_index s.words place)) d.now d.goes;
    }

-- a word of the row is one of the table
pub inside_table : (about key : About) (words : ℕ) (action : Action) → key ≡ about → words ≡ row_words about.layout → action_address about.layout action < row_words about.layout → action_address key.layout action < words
inside_table about key words action same all within =
    subst (λ (n : ℕ). action_address key.layout action < n) (sym all) (subst (λ (b : About). action_address b.layout action < row_words about.layout) (sym same) within)

-- a write that has its place began below its limit
timely_after : (about : About) (words : List ℕ) (states : List PartyState) (h : List Write) (c : ℕ) (e : PartyState) (turn : Turn Running (Once Placed)) → IsIndex (index_of about words states h) → get_elem? states c ≡ some (state_after e turn) → GoesTimely e.since turn
timely_after about words states h c e (Go next) is there = placed_are_timely (index_of about words states h) c (state_after e (Go next)) next is there refl
timely_after about words states h c e (Done answer) is there = tt

module _ (about : About) (id : ℕ) (v : Member) (m : Running) (f : ℕ → ℕ) (is : v.state.machine ≡ Some m) (same : (n : ℕ) → n < 2 ^ 64 → CanChange (running_asks m) n → f n ≡ word_after (running_asks m) n) where
  done : (s : State (Unit {0}) (List Member)) → Kept about s → get_elem? s.views id ≡ some (v ∷ []) → slice_index s.words (action_address about.layout (running_asks m)) < 2 ^ 64
      → Leaves about s id (running_asks m) f (Goes m v)
  done s kept at fits =
      let h = kept.history in
      let old = index_of about s.words kept.states h in
      let own = kept.fits id (v ∷ []) at 0 v refl in
      let c = v.state.caller in
      let sound : Sound about.layout about.generation m = subst (λ (o : Option Running). IfSome o (Sound about.layout about.generation)) is (kept.index.states c v.state own.there).machine in
      let step = machine_law old c v.state m kept.index own.there is in
      let a = running_asks m in
      let place = action_address about.layout a in
      let n = slice_index s.words place in
      let x = given a n in
      let turn = running_turned m x in
      let now = state_after v.state turn in
      let more = written c v.state.index (counted (stage_of m)) in
      let w : Member = record { about = v.about; state = now; seen = h ++ more; told = v.told ++ x ∷ []; taken = v.taken + 1; added = v.added + added_now (op_in m) turn; none_free = v.none_free; known = v.known ++ answered_now m x } in
      let words' = set s.words place (f n) in
      let states' = set kept.states c now in
      let change = same n fits step.can.1 in
      let path : Path Index (stepped_index old c v.state m 0) (index_of about words' states' (h ++ more)) =
      λ k. record { layout = about.layout; generation = about.generation; words = set s.words place (sym change k); states = states'; base = about.base; history = h ++ more; spare = 0 } in
      let caller = after_caller v.state turn in
      let there' : get_elem? states' now.caller ≡ some now = ap (get_elem? states') caller ∙ set_here kept.states c now v.state own.there in
      let placed : placed_by c (h ++ more) ≡ placed_by c h ++ noted x more =
      placed_append c 0 h more ∙ ap (λ (l : List (ℕ × Write)). placed_by c h ++ l) (own_placed c v.state.index (0 + length h) (counted (stage_of m)) ∙ ap (λ (k : ℕ). noted k more) (let z : 0 + length h ≡ length h = omega arith in z)
      ∙ told_place about.layout (length h) x c v.state.index a (counted (stage_of m)) step.counts) in
      let fit : Fits about states' (h ++ more) w = record { same = own.same; there = there'; seen = begins_self (h ++ more); own = refl } in
      let flies = ap showing is in
      let heavier = step.weighs in
      let same_weight = ap (λ (s' : Index). weight_sum (world s')) path in
      let shows_now = showing_is v.state (op_in m) turn in
      let still : (a : AnsweredPart) → IsPartKnown old a → IsPartKnown (index_of about words' states' (h ++ more)) a =
      λ a known. subst (λ (s' : Index). IsPartKnown s' a) path (known_on old c v.state kept.index own.there m is a known) in
      record {
        now = w;
        kept = moved about id v w words' (h ++ more) s kept at caller (subst IsIndex path step.kept) fit (λ u apart f. grown about kept.states h v.state now (counted (stage_of m)) u apart f) (omega arith)
            (let shows = step.shows_on in omega arith) (λ noted. inl noted) (λ a known. still a known)
            (each_both (IsPartKnown (index_of about words' states' (h ++ more))) v.known (answered_now m x) (λ j a part. still a (kept.known id (v ∷ []) at 0 v refl j a part))
            (λ j a part. subst (λ (s' : Index). IsPartKnown s' a) path (answered_known old c v.state kept.index own.there m is j a part)));
        goes = record {
          takes = step.takes;
          stepped = record { about = refl; told = refl; taken = refl; seen = begins_more v.seen h more own.seen };
          state = refl;
          added = refl;
          none_free = refl;
          known = refl;
          own = placed ∙ ap (λ (l : List (ℕ × Write)). l ++ noted x more) own.own;
          says = subst (λ (b : About). SaysOf b.layout.slots (map_of b.base) (h ++ more) v.state (op_in m) (running_call m).limit (reply_of turn)) (sym own.same) step.says;
          no_epoch = step.no_epoch;
          lists = subst (λ (b : About). ListsNow (map_of b.base) (h ++ more) m x) (sym own.same) (lists_now about.layout (facts (world (stepped_index old c v.state m 0))) m x sound.here step.kept.named step.lists);
          op_on = step.keeps_op;
          call_on = step.keeps_call;
          ready = subst (λ (b : About). ReadyAfter b.layout b.generation turn) (sym own.same) step.ready;
          timely = timely_after about words' states' (h ++ more) c v.state turn (subst IsIndex path step.kept) (set_here kept.states c now v.state own.there);
        };
      }

-- an action that may be named is on a word of the row
pub place_inside : (l : Layout) (action : Action) → MayName l action → action_address l action < row_words l
place_inside l (Load place) may = may
place_inside l (Store place value) may = may.0
place_inside l (Exchange place old new) may = may.0
place_inside l (Add place) may = may.0
place_inside l (Drain place value) may = let top = may.0.1 in omega arith

-- Whatever the table is, the word of the action becomes what the action makes of it.
pub allows : (about : About) (words slots id : ℕ) (me : Me (Unit {0}) (List Member)) (m : Running) → IsLone me → (party me).state.machine ≡ Some m → action_address about.layout (running_asks m) < words
    → May about words slots id me (running_asks m) Tells
allows about words slots id me m lone is within =
    may_go_on running_asks (λ (v : Member). v.state.machine) Goes about words slots id me Tells m lone is within (λ found after told. told) (λ f same. done about id (party me) m f is same)

-- the parties and the views once a party has begun its call
begun : (about : About) (id : ℕ) (v : Member) (c : CoreCall) (index : ℕ) (s : State (Unit {0}) (List Member)) (kept : Kept about s) → get_elem? s.views id ≡ some (v ∷ []) → v.state.machine ≡ None → IsRunning (machine_in v c)
    → Kept about (record { words = s.words; homes = s.homes; views = set s.views id (calling v c index (length kept.history) ∷ []) })
begun about id v c index s kept at idle here =
    let h = kept.history in
    let old = index_of about s.words kept.states h in
    let own = kept.fits id (v ∷ []) at 0 v refl in
    let i = v.state.caller in
    let u = calling v c index (length h) in
    let machine : machine_of (view_of old i) c ≡ machine_in v c = ap (λ (b : About). machine_of (record { layout = b.layout; generation = b.generation; caller = i }) c) (sym own.same) in
    let begins = begin_law old i v.state index c kept.index own.there idle (subst IsRunning (sym machine) here) in
    let path : Path Index (started_index old i (record v.state { index = index }) c 0) (index_of about s.words (set kept.states i u.state) h) =
    λ k. record { layout = about.layout; generation = about.generation; words = s.words; states = set kept.states i (state_with (record v.state { index = index }) (length h) (machine k)); base = about.base; history = h; spare = 0 } in
    let fit : Fits about (set kept.states i u.state) h u = record { same = own.same; there = set_here kept.states i u.state v.state own.there; seen = own.seen; own = own.own } in
    let same_weight = ap (λ (s' : Index). weight_sum (world s')) path in
    let as_before = begins.weighs in
    let was = ap showing idle in
    let now = ap (λ (q : Running). showing (Some q)) (sym machine) ∙ begins.shows_none in
    moved about id v u s.words h s kept at refl (subst IsIndex path begins.kept) fit (λ d other f. stayed about kept.states h v.state.caller u.state d other f) (omega arith) (omega arith) (λ noted. inl noted)
    (λ a known. known) (kept.known id (v ∷ []) at 0 v refl)

-- what the first step of a call shows
record BeginsWith (c : CoreCall) (index : ℕ) (v : Member) (x : ℕ) (w : Member) : Type 0 where
  since : ℕ
  later : length v.seen ≤ since
  goes : Goes (machine_in v c) (calling v c index since) x w

-- the same where the step begins the call
pub allows_first : (about : About) (words slots id : ℕ) (me : Me (Unit {0}) (List Member)) (c : CoreCall) (index : ℕ) → IsLone me → (party me).state.machine ≡ None → IsRunning (machine_in (party me) c)
    → action_address about.layout (running_asks (machine_in (party me) c)) < words → May about words slots id me (running_asks (machine_in (party me) c)) (Starts c index)
allows_first about words slots id me c index lone idle here within =
    let v = party me in
    let m = machine_in v c in
    may about words slots id me (running_asks m) (λ x w. BeginsWith c index v x w) (Starts c index) lone within
    (λ found after alone begins. record { since = begins.since; later = begins.later; lone = alone; goes = begins.goes })
    (λ f same s kept at fits.
    let own = kept.fits id (v ∷ []) at 0 v refl in
    let u = calling v c index (length kept.history) in
    leaves_first about s id (running_asks m) f u (Goes m u) (λ x w. BeginsWith c index v x w)
    (λ x w goes. record { since = length kept.history; later = begins_le v.seen kept.history own.seen; goes = goes })
    (done about id u m f refl same (record { words = s.words; homes = s.homes; views = set s.views id (u ∷ []) })
    (begun about id v c index s kept at idle here) (set_here s.views id (u ∷ []) (v ∷ []) at) fits))

pub small_mod : (n : ℕ) → n < 2 ^ 63 → (n + 1) % 2 ^ 64 ≡ n + 1
small_mod n small = omega arith
