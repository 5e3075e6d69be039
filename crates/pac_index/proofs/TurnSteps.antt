-- Each step of a turn keeps the table's rule, by the core's law on a step of a party's turn.
use Rattle.std.proofs.Common.{◌≡◌, ℕ, ◌+◌, ◌-◌, ◌<◌, ◌≤◌, ◌^◌, ◌⊎◌, inl, inr, ⊎_elim, Bool, true, false, List, [], ◌∷◌, ◌++◌, set, refl, sym, ap, ◌∙◌, subst, arith}
use Rattle.std.specs.Prelude.{Option, Some, None, IfSome, slice_index}
use mathlib.Core.Option.{some}
use lib.ListN.{get_elem?}
use Rattle.cat_history.specs.declared.op.Write.{Write}
use Rattle.pm_words.specs.declared.machine.Turn.{Turn}
use Rattle.pm_words.specs.declared.machine.Turn.TheVariants.{Go, Done}
use Rattle.pm_words.specs.Rows.{given, action_address, word_after, CanChange}
use Rattle.updater.specs.declared.making.MakeTurn.{MakeTurn}
use Rattle.updater.specs.declared.making.MakeTurn.TheVariants.{Working}
use Rattle.updater.specs.declared.making.TurnReply.{TurnReply}
use Rattle.updater.specs.declared.making.TurnReply.TheVariants as reply
use Rattle.updater.specs.Makings.{making_from, making_asks, making_turned}
use Rattle.updater.specs.Works.{work_from}
use Rattle.epochs.specs.Kept.{first_epoch}
use Rattle.index_law.specs.Worlds.{Party}
use Rattle.index_law.specs.Weights.{weight_sum}
use Rattle.index_law.proofs.Parties.{set_here}
use Rattle.index_core.specs.declared.party.PartyState.{PartyState}
use Rattle.index_core.specs.PartyStates.{state_turned, turn_after, IsTurnOf}
use Rattle.index_core.specs.Indexes.{Index, IsIndex, world}
use Rattle.index_core.specs.Turns.{turn_begun, turned_index, with_terms, FindsNoneFree}
use Rattle.index_core.proofs.Rechecks.{turns_keep_known}
use Rattle.index_core.proofs.Turning.{parties_same, turns_keep, turn_begins, terms_may_be_set}
use Rattle.atomic_table.specs.Table.{State, Me}
use Rattle.pac_index.specs.declared.rule.About.{About}
use Rattle.pac_index.specs.declared.rule.AnsweredPart.{AnsweredPart}
use Rattle.pac_index.specs.declared.rule.Member.{Member}
use Rattle.pac_index.specs.Kept.{index_of, Fits, IsPartKnown, Kept, May, known_part, party, IsLone}
use Rattle.pac_index.specs.Turns.{turn_in, turning, turning_at, work_in, TurnReady, noted_by, TurnGoes, TellsTurn, StartsTurn, StartsWork}
use Rattle.pac_index.proofs.Allowed.{Leaves, may, may_go_on, leaves_first, moved, stayed, place_inside}
use Rattle.pac_index.proofs.Lists.{begins_self}

-- A turn in flight of an index is sound, and its next action is on a word of the row.
ready_after : (about : About) (words : List ℕ) (states : List PartyState) (history : List Write) (c : ℕ) (e : PartyState) (turn : Turn MakeTurn TurnReply) → IsIndex (index_of about words states history) → get_elem? states c ≡ some e → e.turn ≡ turn_after turn → TurnReady about.layout turn
ready_after about words states history c e (Go next) index there is = (
  (subst (λ (o : Option MakeTurn). IfSome o (IsTurnOf about.layout about.generation)) is (index.states c e there).turn).sound,
  place_inside about.layout (making_asks next) (turns_keep (index_of about words states history) c e next index there is).can.0,
)
ready_after about words states history c e (Done reply) index there is = tt

-- A party has noted that no node was FREE, or its turn is answered so now.
noted_so : (noted : Bool) (turn : Turn MakeTurn TurnReply) → noted_by noted turn ≡ true → (noted ≡ true) ⊎ FindsNoneFree turn
noted_so noted (Go making) is = inl is
noted_so noted (Done (reply.Held word)) is = inl is
noted_so true (Done (reply.Turned turned)) is = inl refl
noted_so false (Done (reply.Turned turned)) is = inr is

module _ (about : About) (id : ℕ) (v : Member) (making : MakeTurn) (f : ℕ → ℕ) (is : v.state.turn ≡ Some making) (same : (n : ℕ) → n < 2 ^ 64 → CanChange (making_asks making) n → f n ≡ word_after (making_asks making) n) where
  done : (s : State (Unit {0}) (List Member)) → Kept about s → get_elem? s.views id ≡ some (v ∷ []) → slice_index s.words (action_address about.layout (making_asks making)) < 2 ^ 64
      → Leaves about s id (making_asks making) f (TurnGoes making v)
  done s kept at fits =
      let h = kept.history in
      let old = index_of about s.words kept.states h in
      let own = kept.fits id (v ∷ []) at 0 v refl in
      let c = v.state.caller in
      let step = turns_keep old c v.state making kept.index own.there is in
      let place = action_address about.layout (making_asks making) in
      let n = slice_index s.words place in
      let x = given (making_asks making) n in
      let turn = making_turned making x in
      let now = state_turned v.state turn in
      let w : Member = record { about = v.about; state = now; seen = h; told = v.told ++ x ∷ []; taken = v.taken + 1; added = v.added; none_free = noted_by v.none_free turn; known = v.known } in
      let words' = set s.words place (f n) in
      let states' = set kept.states c now in
      let change = same n fits step.can.1 in
      let path : Path Index (turned_index old c v.state making) (index_of about words' states' h) =
      λ k. record { layout = about.layout; generation = about.generation; words = set s.words place (sym change k); states = states'; base = about.base; history = h; spare = 0 } in
      let index' = subst IsIndex path step.kept in
      let there' = set_here kept.states c now v.state own.there in
      let fit : Fits about states' h w = record { same = own.same; there = there'; seen = begins_self h; own = refl } in
      let no_heavier = step.weighs in
      let same_weight = ap (λ (s' : Index). weight_sum (world s')) path in
      let still : (a : AnsweredPart) → IsPartKnown old a → IsPartKnown (index_of about words' states' h) a =
      λ a known. subst (λ (s' : Index). IsPartKnown s' a) path (turns_keep_known old c v.state making (known_part a) kept.index own.there is known.0, known.1) in
      record {
        now = w;
        kept = moved about id v w words' h s kept at refl index' fit (λ u other. stayed about kept.states h c now u other) (omega arith) (omega arith)
            (λ noted. ⊎_elim (λ was. inl was) (λ none. inr (let half = step.in_use none in let most = kept.weight in omega arith)) (noted_so v.none_free turn noted))
            (λ a known. still a known) (λ j a part. still a (kept.known id (v ∷ []) at 0 v refl j a part));
        goes = record {
          takes = step.takes;
          stepped = record { about = refl; told = refl; taken = refl; seen = own.seen };
          state = refl;
          added = refl;
          none_free = refl;
          known = refl;
          own = own.own;
          ready = subst (λ (b : About). TurnReady b.layout turn) (sym own.same) (ready_after about words' states' h c now turn index' there' refl);
        };
      }

-- Whatever the table is, the word of the turn's action becomes what the action makes of it.
pub turn_allows : (about : About) (words slots id : ℕ) (me : Me (Unit {0}) (List Member)) (making : MakeTurn) → IsLone me → (party me).state.turn ≡ Some making → action_address about.layout (making_asks making) < words
    → May about words slots id me (making_asks making) TellsTurn
turn_allows about words slots id me making lone is within =
    may_go_on making_asks (λ (v : Member). v.state.turn) TurnGoes about words slots id me TellsTurn making lone is within (λ found after told. told) (λ f same. done about id (party me) making f is same)

-- the parties and the views once a party has begun its turn
begun : (about : About) (id : ℕ) (v : Member) (s : State (Unit {0}) (List Member)) (kept : Kept about s) → get_elem? s.views id ≡ some (v ∷ []) → v.state.turn ≡ None
    → Kept about (record { words = s.words; homes = s.homes; views = set s.views id (turning v ∷ []) })
begun about id v s kept at rests =
    let h = kept.history in
    let old = index_of about s.words kept.states h in
    let own = kept.fits id (v ∷ []) at 0 v refl in
    let c = v.state.caller in
    let u = turning v in
    let index = turn_begins old c v.state first_epoch (first_epoch - 2) kept.index own.there rests (omega arith) (omega arith) in
    let path : Path Index (turn_begun old c v.state first_epoch (first_epoch - 2)) (index_of about s.words (set kept.states c u.state) h) =
    λ k. record { layout = about.layout; generation = about.generation; words = s.words; states = set kept.states c (record v.state { turn = Some (making_from (sym own.same k).layout (sym own.same k).generation first_epoch (first_epoch - 2)) }); base = about.base; history = h; spare = 0 } in
    let fit : Fits about (set kept.states c u.state) h u = record { same = own.same; there = set_here kept.states c u.state v.state own.there; seen = own.seen; own = own.own } in
    let weight = ap (λ (ps : List Party). weight_sum (record (world old) { parties = ps })) (parties_same old c v.state (Some (turn_in v first_epoch)) own.there) in
    let same_weight : weight_sum (world (index_of about s.words (set kept.states c u.state) h)) ≡ weight_sum (world old) = weight in
    moved about id v u s.words h s kept at refl (subst IsIndex path index) fit (λ d other. stayed about kept.states h c u.state d other) (omega arith) (omega arith) (λ noted. inl noted)
    (λ a known. known) (kept.known id (v ∷ []) at 0 v refl)

-- The same where the party is told something new of itself before the step, as which its turn is in flight.
allows_told : (about : About) (words slots id : ℕ) (me : Me (Unit {0}) (List Member)) (u : Member) (making : MakeTurn) (tells : Me (Unit {0}) (List Member) → ℕ → Me (Unit {0}) (List Member) → Type 0) → IsLone me → u.state.turn ≡ Some making
    → action_address about.layout (making_asks making) < words → ((found : ℕ) (after : Me (Unit {0}) (List Member)) → IsLone after → TurnGoes making u (given (making_asks making) found) (party after) → tells me found after)
    → ((s : State (Unit {0}) (List Member)) → Kept about s → get_elem? s.views id ≡ some (party me ∷ []) → Kept about (record { words = s.words; homes = s.homes; views = set s.views id (u ∷ []) })) → May about words slots id me (making_asks making) tells
allows_told about words slots id me u making tells lone flies within tell told =
    may about words slots id me (making_asks making) (TurnGoes making u) tells lone within tell
    (λ f same s kept at small.
    leaves_first about s id (making_asks making) f u (TurnGoes making u) (TurnGoes making u) (λ x w goes. goes)
    (done about id u making f flies same (record { words = s.words; homes = s.homes; views = set s.views id (u ∷ []) }) (told s kept at) (set_here s.views id (u ∷ []) (party me ∷ []) at) small))

-- so it is where the step begins the turn
pub turn_allows_first : (about : About) (words slots id : ℕ) (me : Me (Unit {0}) (List Member)) → IsLone me → (party me).state.turn ≡ None → action_address about.layout (making_asks (turn_in (party me) first_epoch)) < words
    → May about words slots id me (making_asks (turn_in (party me) first_epoch)) StartsTurn
turn_allows_first about words slots id me lone rests within =
    allows_told about words slots id me (turning (party me)) (turn_in (party me) first_epoch) StartsTurn lone refl within (λ found after alone goes. (alone, goes)) (λ s kept at. begun about id (party me) s kept at rests)

-- the parties and the views once a party that has the lock has the epoch of its turn
dated : (about : About) (id : ℕ) (v : Member) (epoch : ℕ) (s : State (Unit {0}) (List Member)) (kept : Kept about s) → get_elem? s.views id ≡ some (v ∷ []) → v.state.turn ≡ Some (work_in v first_epoch) → 1 ≤ epoch → epoch < 2 ^ 64
    → Kept about (record { words = s.words; homes = s.homes; views = set s.views id (turning_at v epoch ∷ []) })
dated about id v epoch s kept at flies positive fits =
    let h = kept.history in
    let old = index_of about s.words kept.states h in
    let own = kept.fits id (v ∷ []) at 0 v refl in
    let c = v.state.caller in
    let u = turning_at v epoch in
    let was : v.state.turn ≡ Some (Working (work_from about.layout about.generation first_epoch (first_epoch - 2))) = flies ∙ ap (λ (b : About). Some (Working (work_from b.layout b.generation first_epoch (first_epoch - 2)))) own.same in
    let law = terms_may_be_set old c v.state first_epoch (first_epoch - 2) epoch (epoch - 2) kept.index own.there was positive fits in
    let path : Path Index (with_terms old c v.state epoch (epoch - 2)) (index_of about s.words (set kept.states c u.state) h) =
    λ k. record { layout = about.layout; generation = about.generation; words = s.words; states = set kept.states c (record v.state { turn = Some (Working (work_from (sym own.same k).layout (sym own.same k).generation epoch (epoch - 2))) }); base = about.base; history = h; spare = 0 } in
    let fit : Fits about (set kept.states c u.state) h u = record { same = own.same; there = set_here kept.states c u.state v.state own.there; seen = own.seen; own = own.own } in
    let same_weight : weight_sum (world (index_of about s.words (set kept.states c u.state) h)) ≡ weight_sum (world old) = sym (ap (λ (q : Index). weight_sum (world q)) path) ∙ law.weighs in
    moved about id v u s.words h s kept at refl (subst IsIndex path law.kept) fit (λ d other. stayed about kept.states h c u.state d other) (omega arith) (omega arith) (λ noted. inl noted)
    (λ a known. known) (kept.known id (v ∷ []) at 0 v refl)

-- and where the step is the first under the lock
pub work_allows_first : (about : About) (words slots id : ℕ) (me : Me (Unit {0}) (List Member)) (epoch : ℕ) → IsLone me → (party me).state.turn ≡ Some (work_in (party me) first_epoch) → 1 ≤ epoch → epoch < 2 ^ 64
    → action_address about.layout (making_asks (work_in (party me) epoch)) < words → May about words slots id me (making_asks (work_in (party me) epoch)) (StartsWork epoch)
work_allows_first about words slots id me epoch lone flies positive fits within =
    allows_told about words slots id me (turning_at (party me) epoch) (work_in (party me) epoch) (StartsWork epoch) lone refl within (λ found after alone goes. (alone, goes)) (λ s kept at. dated about id (party me) epoch s kept at flies positive fits)
