-- The loads of a recheck keep the table's rule, by the core's law on rechecks, and what they tell.
use Rattle.std.proofs.Common.{◌≡◌, ℕ, zero, suc, ◌+◌, ◌<◌, ◌≤◌, ◌==◌, ◌^◌, inl, Bool, true, false, List, [], ◌∷◌, ◌++◌, length, set, refl, sym, ap, ◌∙◌, subst, arith}
use Rattle.std.proofs.lemmas.Bool.{eq-eqb, eqb-true}
use Rattle.std.specs.Prelude.{if◌then◌else◌, slice_index}
use mathlib.Core.Option.{some, some-injective}
use lib.ListN.{get_elem?}
use Rattle.cat_history.specs.Maps.{map_of}
use Rattle.cat_history.specs.declared.op.Write.{Write}
use Rattle.pm_words.specs.declared.action.Action.{Action}
use Rattle.pm_words.specs.declared.action.Action.TheVariants.{Load}
use Rattle.pm_words.specs.declared.again.Again.TheVariants.{Moved}
use Rattle.pm_words.specs.declared.layout.Layout.{Layout}
use Rattle.pm_words.specs.declared.machine.Turn.{Turn}
use Rattle.pm_words.specs.declared.machine.Turn.TheVariants.{Go, Done}
use Rattle.pm_words.specs.Locations.{Cached, Clock, Node, address_of, row_words}
use Rattle.pm_words.specs.Rows.{given, action_address, word_after, CanChange}
use Rattle.pm_words.proofs.Apart.{addresses_within}
use Rattle.pm_words.specs.Offsets.{version_offset}
use Rattle.call_stages.specs.declared.once.Once.{Once}
use Rattle.call_stages.specs.declared.once.Once.TheVariants as once
use Rattle.call_stages.specs.declared.view.View.{View}
use Rattle.call_stages.specs.Kinds.{Told, clock_address, version_address}
use Rattle.node_ops.specs.declared.recheck.Recheck.{Recheck}
use Rattle.node_ops.specs.declared.recheck.Recheck.TheVariants.{Dating, Checking}
use Rattle.node_ops.specs.declared.recheck.Same.{Same}
use Rattle.node_ops.specs.RecheckSteps.{IsRecheck, recheck_asks, recheck_takes, recheck_turned, recheck_view, rechecked}
use Rattle.node_ops.specs.Rechecks.{IsSameAt}
use Rattle.node_ops.proofs.Rechecks.{rechecks_are_told}
use Rattle.index_law.specs.Weights.{weight_sum}
use Rattle.index_law.proofs.Parties.{set_here}
use Rattle.index_core.specs.declared.party.PartyState.{PartyState}
use Rattle.index_core.specs.Indexes.{Index, IsIndex, world}
use Rattle.index_core.specs.Rechecks.{IsRecheckOf, RecheckActs, recheck_told}
use Rattle.index_core.proofs.Rechecks.{rechecks_act, same_tells}
use Rattle.atomic_table.specs.Table.{State, Me}
use Rattle.pac_index.specs.declared.rule.About.{About}
use Rattle.pac_index.specs.declared.rule.AnsweredPart.{AnsweredPart}
use Rattle.pac_index.specs.declared.rule.Member.{Member}
use Rattle.pac_index.specs.Calls.{run_of}
use Rattle.pac_index.specs.Kept.{Fits, IsLone, IsPartKnown, Kept, KnowsParts, May, WasTold, index_of, known_part, party, placed_by, view_in}
use Rattle.pac_index.specs.Rechecked.{AreStill, Checks, Dates, EndsRecheck, IsStill, Looks, Rechecked, SaysSame, StartsRecheck}
use Rattle.pac_index.proofs.Allowed.{Leaves, may, moved, stayed}
use Rattle.pac_index.proofs.Lists.{begins_le, begins_self, begins_trans}

set_same : (l : List PartyState) (i : ℕ) (e : PartyState) → get_elem? l i ≡ some e → set l i e ≡ l
set_same [] i e at = refl
set_same (x ∷ xs) zero e at = ap (λ (y : PartyState). y ∷ xs) (sym (some-injective x e at))
set_same (x ∷ xs) (suc i) e at = ap (λ (l : List PartyState). x ∷ l) (set_same xs i e at)

-- What a load shows beside the party that it leaves.
abbrev Tells : Recheck → Member → ℕ → Member → Type 0
Tells (Dating view node version) v x w = x ≡ length w.seen
Tells (Checking view node version clock) v x w = AreStill node x v w.seen (length w.seen)

abbrev Shows : Recheck → List ℕ → Member → ℕ → Member → Type 0
Shows r before v x w = Looks before v x w × Told v.about.layout v.about.generation (recheck_asks r) x × Tells r v x w

-- a part that is known is so still, if its node's version word is still the one that it told
still_known : (s : Index) (view : View) (node x : ℕ) (a : AnsweredPart) → IsIndex s → IsRecheckOf s (Checking view node x (length s.history)) → x ≡ recheck_told s (Checking view node x (length s.history)) → IsPartKnown s a
    → a.words.node ≡ node → a.words.version ≡ x → IsStill s.layout.slots (map_of s.base) s.history a (length s.history)
still_known s view node x a is of found known node_is version_is =
    let clock = length s.history in
    let r = Checking view node x clock in
    let same : Same = record { place = clock } in
    let done : recheck_turned r (recheck_told s r) ≡ Done (once.Done same) =
    ap (recheck_turned r) (sym found) ∙ ap (λ (b : Bool). answer_with (if b then once.Done same else once.Again (Moved node x x))) (eq-eqb x x refl) in
    let so : IsSameAt s.layout.slots (map_of s.base) s.history (known_part a) clock = same_tells s clock r same (known_part a) is of (omega arith, omega arith) done known.0 node_is version_is in
    record {
      lists = λ between late soon. so.lists between late soon;
      whole = λ many between late soon. so.whole (inl many) between late soon;
    }
  where
    answer_with : Once Same → Turn Recheck (Once Same)
    answer_with answer = Done answer

tells : (r : Recheck) (about : About) (v w : Member) (words : List ℕ) (states : List PartyState) (h : List Write) → IsIndex (index_of about words states h) → IsRecheckOf (index_of about words states h) r → v.about ≡ about → KnowsParts (index_of about words states h) v
    → w.seen ≡ h → Tells r v (recheck_told (index_of about words states h) r) w
tells (Dating view node version) about v w words states h is of same knew seen =
    rechecks_are_told (world (index_of about words states h)) (Dating view node version) is.lawful of.here of.layout ∙ ap length (sym seen)
tells (Checking view node version clock) about v w words states h is of same knew seen = λ a has node_is version_is.
    let old = index_of about words states h in
    let x = recheck_told old (Checking view node version clock) in
    let still : IsStill about.layout.slots (map_of about.base) h a (length h) =
    still_known old view node x a is (record { here = of.here; layout = of.layout; generation = of.generation }) refl (knew has.0 a has.1) node_is version_is in
    subst (λ (q : About × List Write). IsStill q.0.layout.slots (map_of q.0.base) q.1 a (length q.1)) (λ k. (sym same k, sym seen k)) still

module _ (about : About) (id : ℕ) (v : Member) (r : Recheck) (before : List ℕ) (f : ℕ → ℕ) (same : (n : ℕ) → n < 2 ^ 64 → CanChange (recheck_asks r) n → f n ≡ word_after (recheck_asks r) n)
    (here : IsRecheck r) (layout : (recheck_view r).layout ≡ about.layout) (generation : (recheck_view r).generation ≡ about.generation) where
  looked : (s : State (Unit {0}) (List Member)) → Kept about s → get_elem? s.views id ≡ some (v ∷ []) → slice_index s.words (action_address about.layout (recheck_asks r)) < 2 ^ 64
      → Leaves about s id (recheck_asks r) f (Shows r before v)
  looked s kept at fits =
      let h = kept.history in
      let old = index_of about s.words kept.states h in
      let own = kept.fits id (v ∷ []) at 0 v refl in
      let c = v.state.caller in
      let of : IsRecheckOf old r = record { here = here; layout = layout; generation = generation } in
      let act : RecheckActs old r = rechecks_act old r kept.index of in
      let place = action_address about.layout (recheck_asks r) in
      let n = slice_index s.words place in
      let x = given (recheck_asks r) n in
      let w : Member = record { about = v.about; state = v.state; seen = h; told = before ++ x ∷ []; taken = v.taken + 1; added = v.added; none_free = v.none_free; known = v.known } in
      let words' = set s.words place (f n) in
      let states' = set kept.states c v.state in
      let same_words : words' ≡ s.words = ap (set s.words place) (same n fits act.can.1) ∙ act.leaves in
      let same_states : states' ≡ kept.states = set_same kept.states c v.state own.there in
      let path : Path Index old (index_of about words' states' h) =
      λ k. record { layout = about.layout; generation = about.generation; words = sym same_words k; states = sym same_states k; base = about.base; history = h; spare = 0 } in
      let fit : Fits about states' h w = record { same = own.same; there = set_here kept.states c v.state v.state own.there; seen = begins_self h; own = refl } in
      let same_weight = ap (λ (s' : Index). weight_sum (world s')) path in
      let knew : KnowsParts old v = kept.known id (v ∷ []) at 0 v refl in
      let told : Told about.layout about.generation (recheck_asks r) x =
      subst (λ (l : Layout). Told l about.generation (recheck_asks r) x) layout (subst (λ (g : ℕ). Told (recheck_view r).layout g (recheck_asks r) x) generation act.takes.1) in
      record {
        now = w;
        kept = moved about id v w words' h s kept at refl (subst IsIndex path kept.index) fit (λ u apart f. stayed about kept.states h c v.state u apart f) (omega arith) (omega arith) (λ noted. inl noted)
            (λ a known. subst (λ (s' : Index). IsPartKnown s' a) path known) (λ j a there. subst (λ (s' : Index). IsPartKnown s' a) path (knew j a there));
        goes = (
          record { about = refl; state = refl; told = refl; taken = refl; added = refl; none_free = refl; known = refl; seen = own.seen; own = own.own },
          subst (λ (b : About). Told b.layout b.generation (recheck_asks r) x) (sym own.same) told,
          tells r about v w s.words kept.states h kept.index of own.same knew refl,
        );
      }

-- its words are words of the row
pub load_inside : (l : Layout) (r : Recheck) → IsRecheck r → (recheck_view r).layout ≡ l → action_address l (recheck_asks r) < row_words l
load_inside l (Dating view node version) here same = subst (λ (n : Layout). address_of n Clock < row_words l) (sym same) (addresses_within l Clock tt)
load_inside l (Checking view node version clock) here same =
    let at : node < l.nodes = subst (λ (n : Layout). node < n.nodes) same here.1 in
    subst (λ (n : Layout). address_of n (Cached (Node node version_offset)) < row_words l) (sym same) (addresses_within l (Cached (Node node version_offset)) (at, omega arith))

-- and its machine takes what they give
pub takes_clock : (v w : Member) (view : View) (node version clock : ℕ) → IsRecheck (Dating view node version) → v.about.layout ≡ view.layout → v.about.generation ≡ view.generation → Dates v clock w → recheck_takes (Dating view node version) clock
takes_clock v w view node version clock here layout generation dates =
    (here, subst (λ (q : Layout × ℕ). Told q.0 q.1 (Load (clock_address q.0)) clock) (λ k. (layout k, generation k)) dates.told)

pub takes_version : (v w : Member) (view : View) (node version clock found : ℕ) → IsRecheck (Checking view node version clock) → v.about.layout ≡ view.layout → v.about.generation ≡ view.generation → Checks node v found w → recheck_takes (Checking view node version clock) found
takes_version v w view node version clock found here layout generation checks =
    (here, subst (λ (q : Layout × ℕ). Told q.0 q.1 (Load (version_address q.0 node)) found) (λ k. (layout k, generation k)) checks.told)

-- behind the clock it checks the version word
pub goes_checking : (view : View) (node version clock : ℕ) (first next : Recheck) (turn : Turn Recheck (Once Same)) → first ≡ Dating view node version → turn ≡ recheck_turned first clock → turn ≡ Go next → next ≡ Checking view node version clock
goes_checking view node version clock first next turn is turned goes =
    let gives : turn ≡ Go (Checking view node version clock) = turned ∙ ap (λ (r : Recheck). recheck_turned r clock) is in
    cc

pub ends_checked : (view : View) (node version clock found : ℕ) (next : Recheck) (turn : Turn Recheck (Once Same)) (answer : Once Same) → next ≡ Checking view node version clock → turn ≡ recheck_turned next found → turn ≡ Done answer → answer ≡ rechecked node version clock found
ends_checked view node version clock found next turn answer is turned done =
    let gives : turn ≡ Done (rechecked node version clock found) = turned ∙ ap (λ (r : Recheck). recheck_turned r found) is in
    cc

-- Whatever the table is, the clock may be loaded.
pub dates_allowed : (about : About) (words slots id : ℕ) (me : Me (Unit {0}) (List Member)) (view : View) (node version : ℕ) → IsLone me → IsRecheck (Dating view node version) → view.layout ≡ about.layout → view.generation ≡ about.generation
    → view.layout ≡ (party me).about.layout → action_address about.layout (Load (clock_address view.layout)) < words → May about words slots id me (Load (clock_address view.layout)) StartsRecheck
dates_allowed about words slots id me view node version lone here layout generation own within =
    let v = party me in
    let r = Dating view node version in
    may about words slots id me (recheck_asks r) (Shows r [] v) StartsRecheck lone within
    (λ found after alone shows. (
      alone,
      record { looks = shows.0; told = subst (λ (l : Layout). Told v.about.layout v.about.generation (Load (clock_address l)) found) own shows.1; clock = shows.2 },
    ))
    (λ f same s kept at fits. looked about id v r [] f same here layout generation s kept at fits)

-- And so may the node's version word.
pub checks_allowed : (about : About) (words slots id : ℕ) (me : Me (Unit {0}) (List Member)) (view : View) (node version clock : ℕ) → IsLone me → IsRecheck (Checking view node version clock) → view.layout ≡ about.layout → view.generation ≡ about.generation
    → view.layout ≡ (party me).about.layout → action_address about.layout (Load (version_address view.layout node)) < words → May about words slots id me (Load (version_address view.layout node)) (EndsRecheck node)
checks_allowed about words slots id me view node version clock lone here layout generation own within =
    let v = party me in
    let r = Checking view node version clock in
    may about words slots id me (recheck_asks r) (Shows r v.told v) (EndsRecheck node) lone within
    (λ found after alone shows. (
      alone,
      record { looks = shows.0; told = subst (λ (l : Layout). Told v.about.layout v.about.generation (Load (version_address l node)) found) own shows.1; still = shows.2 },
    ))
    (λ f same s kept at fits. looked about id v r v.told f same here layout generation s kept at fits)

-- a part that is so still was so at each place before
still_before : (old mid : About) (h : List Write) (a : AnsweredPart) (place : ℕ) → mid ≡ old → place ≤ length h → IsStill mid.layout.slots (map_of mid.base) h a (length h) → IsStill old.layout.slots (map_of old.base) h a place
still_before old mid h a place same before is = subst (λ (b : About). IsStill b.layout.slots (map_of b.base) h a place) same (record {
  lists = λ between late soon. is.lists between late (omega arith);
  whole = λ many between late soon. is.whole many between late (omega arith);
})

-- what the load of the clock gave is what it tells
pub dates_told : (me after : Me (Unit {0}) (List Member)) (action : Action) (x : ℕ) (view : View) (node version : ℕ) (first : Recheck) → WasTold StartsRecheck me action x after → action ≡ recheck_asks first → first ≡ Dating view node version → Dates (party me) x (party after)
dates_told me after action x view node version first told asks is =
    let got : x ≡ told.found = told.is ∙ ap (λ (a : Action). given a told.found) (asks ∙ ap recheck_asks is) in
    subst (λ (n : ℕ). Dates (party me) n (party after)) (sym got) told.heard.1

-- and so it is with that of the version word
pub checks_told : (me after : Me (Unit {0}) (List Member)) (action : Action) (x : ℕ) (view : View) (node version clock chosen : ℕ) (last : Recheck) → WasTold (EndsRecheck chosen) me action x after → node ≡ chosen → action ≡ recheck_asks last → last ≡ Checking view node version clock
    → IsLone after × Checks node (party me) x (party after)
checks_told me after action x view node version clock chosen last told same asks is =
    let got : x ≡ told.found = told.is ∙ ap (λ (a : Action). given a told.found) (asks ∙ ap recheck_asks is) in
    let heard : EndsRecheck node me told.found after = subst (λ (n : ℕ). EndsRecheck n me told.found after) (sym same) told.heard in
    (heard.0, subst (λ (n : ℕ). Checks node (party me) n (party after)) (sym got) heard.1)

-- What a recheck is answered that has made its two loads.
pub rechecks_so : (node version : ℕ) (old mid new : Member) (clock found : ℕ) → Dates old clock mid → Checks node mid found new → Rechecked node version old (rechecked node version clock found) new
rechecks_so node version old mid new clock found dates checks =
    let first = dates.looks in
    let last = checks.looks in
    let told : new.told ≡ clock ∷ found ∷ [] = last.told ∙ ap (λ (l : List ℕ). l ++ found ∷ []) first.told in
    let caller : mid.state.caller ≡ old.state.caller = ap (λ (e : PartyState). e.caller) first.state in
    record {
      about = last.about ∙ first.about;
      state = last.state ∙ first.state;
      ran = ap (run_of recheck_turned (Go (Dating (view_in old) node version))) told;
      taken = let one = first.taken in let two = last.taken in let long = ap length told in omega arith;
      added = last.added ∙ first.added;
      none_free = last.none_free ∙ first.none_free;
      known = last.known ∙ first.known;
      seen = begins_trans old.seen mid.seen new.seen first.seen last.seen;
      own = subst (λ (c : ℕ). placed_by c new.seen ≡ placed_by c mid.seen) caller last.own ∙ first.own;
      says = says;
    }
  where
    late : length old.seen ≤ clock
    late = let before = begins_le old.seen mid.seen dates.looks.seen in let is = dates.clock in omega arith

    soon : clock ≤ length new.seen
    soon = let behind = begins_le mid.seen new.seen checks.looks.seen in let is = dates.clock in omega arith

    says : SaysSame node version old (rechecked node version clock found) new
    says = elim (found == version) as (λ b. (found == version) ≡ b → SaysSame node version old (if b then once.Done (record { place = clock }) else once.Again (Moved node version found)) new) [
      | true ↦ λ is. (
        (late, soon),
        λ a has node_is version_is. still_before old.about mid.about new.seen a clock dates.looks.about soon
            (checks.still a (has.0, subst (λ (l : List AnsweredPart). get_elem? l has.0 ≡ some a) (sym dates.looks.known) has.1) node_is (version_is ∙ sym (eqb-true _ _ is))),
      )
      | false ↦ λ is. (refl, refl, λ e. let yes = eq-eqb found version e in let no : true ≡ false = sym yes ∙ is in absurd (cc))
    ] refl
