-- How the rule begins, and how seats part and meet.
use Rattle.std.proofs.Common.{◌≡◌, ◌≢◌, ℕ, zero, suc, ◌+◌, ◌<◌, ◌≤◌, ⊎_elim, true, false, eq-eqb, ne_eqb, List, [], ◌∷◌, ◌++◌, map, drop, set, refl, sym, ap, ◌∙◌, subst, arith}
use Rattle.std.proofs.lemmas.Bool.{cases_eq}
use Rattle.std.specs.Prelude.{◌==◌}
use mathlib.Core.Option.{some, some-ne-none}
use lib.ListN.{get_elem?}
use Rattle.index_law.proofs.Parties.{set_else, each_set, each_snoc}
use Rattle.index_core.specs.declared.party.PartyState.{PartyState}
use Rattle.index_core.specs.PartyStates.{idle_state, idle_states}
use Rattle.index_core.specs.Indexes.{Index, IsIndex, world, parties_of}
use Rattle.index_core.specs.Lone.{IsQuiet}
use Rattle.index_core.proofs.Stepping.{respare}
use Rattle.index_core.proofs.Lists.{map_from, map_there, there_is, idle-length, idle-each}
use Rattle.atomic_table.specs.Table.{Me, opening, Splits, Joins, Enters}
use Rattle.atomic_table.proofs.Lists.{drop_at}
use Rattle.index_law.specs.Weights.{weight_sum}
use Rattle.pac_index.specs.declared.rule.About.{About}
use Rattle.pac_index.specs.declared.rule.Member.{Member}
use Rattle.pac_index.specs.Callers.{about_in}
use Rattle.index_core.specs.MachineLaws.{AreIdle}
use Rattle.index_core.proofs.MachineLaw.{with_idle, idle_weigh}
use Rattle.pac_index.specs.Kept.{AllKnow, KnowsParts}
use Rattle.pac_index.specs.Kept.{index_of, Fits, AllFit, one_of, times_in, added_in, added_of, opening_weight, IsHalfPaid, AllPaid, Kept, member_of, first_view, first_of, rest_of}
use Rattle.epochs.specs.Views.{one_if}
use Rattle.epochs.proofs.Lists.{alone, each_append}
use Rattle.epochs.proofs.ViewSums.{in_append, in_set, in_snoc}

pub none_idle : (n : ℕ) → AreIdle (idle_states n) n
none_idle n = record {
  count = idle-length n;
  numbers = λ i e at. ap (λ (d : PartyState). d.caller) (idle-each n i e at);
  idle = λ i e at. ap (λ (d : PartyState). d.machine) (idle-each n i e at);
  resting = λ i e at. ap (λ (d : PartyState). d.turn) (idle-each n i e at);
  unchecked = λ i e at. ap (λ (d : PartyState). d.recheck) (idle-each n i e at);
  begun = λ i e at. ap (λ (d : PartyState). d.since) (idle-each n i e at);
}

map-snoc : (f : PartyState → Member) (l : List PartyState) (e : PartyState) → map f (l ++ e ∷ []) ≡ map f l ++ f e ∷ []
map-snoc f [] e = refl
map-snoc f (x ∷ xs) e = ap (λ (t : List Member). f x ∷ t) (map-snoc f xs e)

-- how often a number stands among the first parties
times_first : (about : About) (k n : ℕ) → times_in n (map (member_of about) (idle_states (suc k))) ≡ times_in n (map (member_of about) (idle_states k)) + one_if (k == n)
times_first about k n =
    let split = ap (times_in n) (map-snoc (member_of about) (idle_states k) (idle_state k)) ∙ in_append (one_of n) (map (member_of about) (idle_states k)) (member_of about (idle_state k) ∷ []) in
    let one : times_in n (member_of about (idle_state k) ∷ []) ≡ one_if (k == n) = omega arith in
    omega arith

none_yet : (about : About) (k n : ℕ) → k ≤ n → times_in n (map (member_of about) (idle_states k)) ≡ 0
none_yet about zero n le = refl
none_yet about (suc k) n le =
    let split = times_first about k n in
    let before = none_yet about k n (omega arith) in
    let other : one_if (k == n) ≡ 0 = ap one_if (ne_eqb k n (λ e. omega arith)) in
    omega arith

one_most : (about : About) (k n : ℕ) → times_in n (map (member_of about) (idle_states k)) ≤ 1
one_most about zero n = omega arith
one_most about (suc k) n = ⊎_elim
    (λ (same : k ≡ n). let split = times_first about k n in let before = none_yet about k n (omega arith) in let here : one_if (k == n) ≡ 1 = ap one_if (eq-eqb k n same) in omega arith)
    (λ (apart : k ≢ n). let split = times_first about k n in let before = one_most about k n in let other : one_if (k == n) ≡ 0 = ap one_if (ne_eqb k n apart) in omega arith)
    (cases_eq k n)

-- the rule holds as the table is made
pub opens : (s : Index) → IsIndex s → IsQuiet s → s.history ≡ [] → Kept (about_in s) (opening s.words [] (first_view (about_in s)))
opens s is quiet none =
    let about = about_in s in
    let n = parties_of s.layout in
    let states = idle_states n in
    let index = with_idle s states is quiet.calls quiet.turns (none_idle n) in
    record {
      states = states;
      history = [];
      index = subst IsIndex (λ k. record { layout = s.layout; generation = s.generation; words = s.words; states = states; base = s.base; history = none k; spare = 0 }) (respare (record s { states = states }) 0 index);
      fits = alone (AllFit about states []) (first_view about) (λ k m at.
          let from = map_from (member_of about) states k m at in
          subst (Fits about states []) from.2 (record {
            same = refl;
            there = ap (get_elem? states) ((none_idle n).numbers k from.0 from.1) ∙ from.1;
            seen = ([], refl);
            own = refl;
          }));
      once = λ number. let most = one_most about n number in omega arith;
      weight =
          let o : Index = index_of about s.words states [] in
          let as_weight : weight_sum (world o) ≡ opening_weight about = idle_weigh o (none_idle n).idle in
          omega arith;
      full = alone (AllPaid about (first_view about ∷ [])) (first_view about) (λ k m at noted.
          let from = map_from (member_of about) states k m at in
          absurd (let no : false ≡ true = ap (λ (u : Member). u.none_free) from.2 ∙ noted in cc));
      known = alone (AllKnow (index_of about s.words states [])) (first_view about) (λ k m at.
          let from = map_from (member_of about) states k m at in
          subst (KnowsParts (index_of about s.words states [])) from.2 (λ j a none. absurd (some-ne-none a (sym none))));
    }

both_added : (v : List Member) → added_in (rest_of v) + added_in (first_of v) ≡ added_in v
both_added [] = omega arith
both_added (x ∷ xs) = omega arith

-- what holds of each party of a view holds of those behind its first
behind : (P : Member → Type 0) (v : List Member) → ((k : ℕ) (m : Member) → get_elem? v k ≡ some m → P m) → (k : ℕ) (m : Member) → get_elem? (rest_of v) k ≡ some m → P m
behind P [] all k m at = absurd (some-ne-none m (sym at))
behind P (x ∷ xs) all k m at = all (suc k) m at

-- and of the first
front : (P : Member → Type 0) (v : List Member) → ((k : ℕ) (m : Member) → get_elem? v k ≡ some m → P m) → (k : ℕ) (m : Member) → get_elem? (first_of v) k ≡ some m → P m
front P [] all k m at = absurd (some-ne-none m (sym at))
front P (x ∷ xs) all zero m at = all 0 m at
front P (x ∷ xs) all (suc k) m at = absurd (some-ne-none m (sym at))

-- a view is cut in two
pub divides : (about : About) (id : ℕ) (v : List Member) → Splits (Kept about) id v (rest_of v) (first_of v)
divides about id v s kept at = record {
  states = kept.states;
  history = kept.history;
  index = kept.index;
  fits = each_snoc (AllFit about kept.states kept.history) (set s.views id (rest_of v)) (first_of v)
      (each_set (AllFit about kept.states kept.history) s.views id (rest_of v) (λ j u other there. kept.fits j u there) (behind (Fits about kept.states kept.history) v (kept.fits id v at)))
      (front (Fits about kept.states kept.history) v (kept.fits id v at));
  once = λ n.
      let set_is = in_set (one_of n) s.views id v (rest_of v) at in
      let snoc_is = in_snoc (one_of n) (set s.views id (rest_of v)) (first_of v) in
      let parts = both_of n v in
      let before = kept.once n in
      omega arith;
  weight =
      let set_is = in_set added_of s.views id v (rest_of v) at in
      let snoc_is = in_snoc added_of (set s.views id (rest_of v)) (first_of v) in
      let parts = both_added v in
      let before = kept.weight in
      omega arith;
  full = each_snoc (AllPaid about views) (set s.views id (rest_of v)) (first_of v)
      (each_set (AllPaid about views) s.views id (rest_of v) (λ j u other there k m at' noted. still (kept.full j u there k m at' noted)) (behind (λ (m : Member). m.none_free ≡ true → IsHalfPaid about views) v (λ k m at' noted. still (kept.full id v at k m at' noted))))
      (front (λ (m : Member). m.none_free ≡ true → IsHalfPaid about views) v (λ k m at' noted. still (kept.full id v at k m at' noted)));
  known = each_snoc (AllKnow index) (set s.views id (rest_of v)) (first_of v)
      (each_set (AllKnow index) s.views id (rest_of v) (λ j u other there. kept.known j u there) (behind (KnowsParts index) v (kept.known id v at)))
      (front (KnowsParts index) v (kept.known id v at));
}
  where
    views : List (List Member)
    views = set s.views id (rest_of v) ++ first_of v ∷ []

    index : Index
    index = index_of about s.words kept.states kept.history

    still : IsHalfPaid about s.views → IsHalfPaid about views
    still was =
        let set_is = in_set added_of s.views id v (rest_of v) at in
        let snoc_is = in_snoc added_of (set s.views id (rest_of v)) (first_of v) in
        let parts = both_added v in
        omega arith

    both_of : (n : ℕ) (v : List Member) → times_in n (rest_of v) + times_in n (first_of v) ≡ times_in n v
    both_of n [] = omega arith
    both_of n (x ∷ xs) = omega arith

-- two views are made one
pub meets : (about : About) (id : ℕ) (v : List Member) (other : ℕ) (w : List Member) → Joins (Kept about) id v other w (v ++ w) []
meets about id v other w s kept at apart there =
    let found : get_elem? s.views other ≡ some w = sym (set_else s.views id other (v ++ w) apart) ∙ there in
    record {
      states = kept.states;
      history = kept.history;
      index = kept.index;
      fits = each_set (AllFit about kept.states kept.history) (set s.views id (v ++ w)) other []
          (λ j u away at'. each_set (AllFit about kept.states kept.history) s.views id (v ++ w) (λ i d off at''. kept.fits i d at'') (each_append (Fits about kept.states kept.history) v w (kept.fits id v at) (kept.fits other w found)) j u at')
          (λ k m at'. absurd (some-ne-none m (sym at')));
      once = λ n.
          let one = in_set (one_of n) s.views id v (v ++ w) at in
          let two = in_set (one_of n) (set s.views id (v ++ w)) other w [] there in
          let sum = in_append (one_of n) v w in
          let before = kept.once n in
          omega arith;
      weight =
          let one = in_set added_of s.views id v (v ++ w) at in
          let two = in_set added_of (set s.views id (v ++ w)) other w [] there in
          let sum = in_append added_of v w in
          let before = kept.weight in
          omega arith;
      full =
          let views = set (set s.views id (v ++ w)) other [] in
          let still : IsHalfPaid about s.views → IsHalfPaid about views = (λ was.
          let one = in_set added_of s.views id v (v ++ w) at in
          let two = in_set added_of (set s.views id (v ++ w)) other w [] there in
          let sum = in_append added_of v w in
          omega arith) in
          each_set (AllPaid about views) (set s.views id (v ++ w)) other []
          (λ j u away at'. each_set (AllPaid about views) s.views id (v ++ w) (λ i d off at'' k m here noted. still (kept.full i d at'' k m here noted))
          (each_append (λ (m : Member). m.none_free ≡ true → IsHalfPaid about views) v w (λ k m here noted. still (kept.full id v at k m here noted)) (λ k m here noted. still (kept.full other w found k m here noted))) j u at')
          (λ k m at'. absurd (some-ne-none m (sym at')));
      known =
          let index = index_of about s.words kept.states kept.history in
          each_set (AllKnow index) (set s.views id (v ++ w)) other []
          (λ j u away at'. each_set (AllKnow index) s.views id (v ++ w) (λ i d off at''. kept.known i d at'') (each_append (KnowsParts index) v w (kept.known id v at) (kept.known other w found)) j u at')
          (λ k m at'. absurd (some-ne-none m (sym at')));
    }

-- the next of the first parties
pub next_first : (about : About) (n i : ℕ) → i < n → drop i (map (member_of about) (idle_states n)) ≡ member_of about (idle_state i) ∷ drop (suc i) (map (member_of about) (idle_states n))
next_first about n i less =
    let here = there_is (idle_states n) i (subst (λ (k : ℕ). i < k) (sym (idle-length n)) less) in
    drop_at (map (member_of about) (idle_states n)) i (member_of about (idle_state i)) (map_there (member_of about) (idle_states n) i (idle_state i) (here.1 ∙ ap some (idle-each n i here.0 here.1)))

-- a seat comes that has no party
pub enters : (about : About) (slots i : ℕ) → Enters (Kept about) slots i (λ n w. ◌≡◌ {A = Me (Unit {0}) (List Member)} (w, []) ([], []))
enters about slots i s kept count fits = (
  [],
  record {
    states = kept.states;
    history = kept.history;
    index = kept.index;
    fits = each_snoc (AllFit about kept.states kept.history) s.views [] (λ j v at. kept.fits j v at) (λ k m at. absurd (some-ne-none m (sym at)));
    once = λ n. let snoc = in_snoc (one_of n) s.views [] in let before = kept.once n in omega arith;
    weight = let snoc = in_snoc added_of s.views [] in let before = kept.weight in omega arith;
    full = each_snoc (AllPaid about (s.views ++ [] ∷ [])) s.views [] (λ j v at k m here noted. let snoc = in_snoc added_of s.views [] in let was = kept.full j v at k m here noted in omega arith) (λ k m at. absurd (some-ne-none m (sym at)));
    known = each_snoc (AllKnow (index_of about s.words kept.states kept.history)) s.views [] (λ j v at. kept.known j v at) (λ k m at. absurd (some-ne-none m (sym at)));
  },
  refl,
)
