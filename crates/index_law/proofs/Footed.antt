-- What leaves all that parties have of log lines and prevs: other indexes of idle parties, words that become durable, the
-- stamps of nodes.
use Rattle.std.proofs.Common.{◌≡◌, ◌≢◌, ℕ, ◌<◌, ◌≤◌, ◌⊎◌, inl, inr, ⊎_elim, Bool, true, false, cond, ◌&&◌, List, [], length, set, refl, sym, ap, ◌∙◌, subst, arith}
use Rattle.std.specs.Prelude.{Some, None, IfSome}
use Rattle.std.proofs.lemmas.Bool.{cases_lt, cases_eq, lt-ltb, le-ltb, ltb-true}
use mathlib.Core.Option.{some, some-injective}
use lib.ListN.{get_elem?}
use Rattle.pm_words.specs.Codes.{live_status, empty_state, free_status, gone_status}
use Rattle.pm_words.specs.declared.layout.Layout.{Layout}
use Rattle.pm_words.specs.Layouts.{IsLayout}
use Rattle.pm_words.specs.Locations.{Location, Node, Line, Clock, Volatile, Cached, Durable, HasWord, HasLocation, at, address_of}
use Rattle.pm_words.specs.Rows.{evicted}
use Rattle.pm_words.proofs.Apart.{at-set_other}
use Rattle.pm_words.proofs.Made.{fresh_at}
use Rattle.data_node.specs.Spots.{Spot}
use Rattle.pm_words.specs.Offsets.{next_offset, state_offset, status_offset, prev_offset, stamp_offset}
use Rattle.call_stages.specs.Stages.{Stage, Idle, HoldsNode, Tells}
use Rattle.call_stages.specs.Kinds.{HasWordAt}
use Rattle.call_stages.specs.Lines.{HeldLine}
use Rattle.index_law.specs.Facts.{Facts, facts_of, map_now, IsListed, status_in, spot_in}
use Rattle.index_law.specs.Worlds.{Party, World, facts}
use Rattle.index_law.specs.Lawful.{Lawful}
use Rattle.index_law.specs.Laws.{marked_row, fresh_row, fresh_world, next_round}
use Rattle.index_law.proofs.MarkedRow.{marked-at, marked-at_volatile}
use Rattle.index_law.specs.Lines.{line_in, safe_line, AreFit, SureLine, IsGiven, IsWaiting}
use Rattle.call_stages.specs.Orders.{AreInOrder}
use Rattle.index_law.specs.Prevs.{prev_in, IsOwed, IsGone}
use Rattle.index_law.specs.Whole.{Whole}
use Rattle.index_law.specs.Footings.{NeedsNoParty}
use Rattle.index_law.specs.Footed.{IsFooted, AreAlike, AreFree, EvictIsFooted, StartIsFooted, AlikeIsFooted, RestIsFooted, RoundIsFooted, StampIsFooted, FreshIsFooted}
use Rattle.index_law.proofs.Evictions.{evict_law}
use Rattle.index_law.proofs.Fresh.{fresh_law}
use Rattle.index_law.proofs.Joint.{sure_same, fit_same}
use Rattle.index_law.proofs.Noting.{LinesStay, line-alike, same_spots, evict_fits, store_leaves}
use Rattle.index_law.proofs.Prevs.{store_prev, evict_traces, rest_traced, idle_follow}
use Rattle.index_law.proofs.Rows.{facts-elsewhere, spot_in-here}
use Rattle.index_law.proofs.Parties.{at_set, set_here, set_else}
use Rattle.index_law.proofs.Starts.{start_law, rest_law, idle_law, listed_within}
use Rattle.index_law.proofs.Twins.{IsCloser, evict_closer, evict_cached}
use Rattle.index_law.proofs.Places.{node_at, offset_at}

-- a row in which the nodes, their prevs and the lines are the same, with such parties
pub moved_footed : (z : Whole) (words : List ℕ) (parties : List Party) → IsFooted z → Lawful (record (z.world) { words = words; parties = parties }) → AreAlike z.world.parties parties
    → facts (record (z.world) { words = words }) ≡ facts z.world → ((n : ℕ) → prev_in z.world.layout words n ≡ prev_in z.world.layout z.world.words n)
    → ((c j offset : ℕ) → LinesStay z.world.layout z.world.words words c j offset) → IsFooted (record { world = record (z.world) { words = words; parties = parties }; lines = z.lines; debts = z.debts })
moved_footed z words parties is lawful alike same prevs stay =
    let l = z.world.layout in
    let joint = is.0.joint in
    let traced = is.0.traced in
    let f = facts z.world in
    let prev : ℕ → ℕ = prev_in l z.world.words in
    let prev' : ℕ → ℕ = prev_in l words in
    let same_prevs : prev' ≡ prev = λ i n. prevs n i in
    let world : World = record (z.world) { words = words; parties = parties } in (
      record {
        joint = record {
          lawful = lawful;
          fit = fit_same l z.world.words words stay joint.fit;
          sure = λ i e there. sure_same l z.world.words words e (λ o. (stay e.caller e.number o).0) (λ o. (stay e.caller e.number o).1) (joint.sure i e there);
          owned = λ i e there. let owned = joint.owned i e there in let q = alike.forth i owned.party owned.there in record { party = q.0; there = q.1; own = owned.own ∙ sym q.2 };
          callers = λ u v b d at_u at_v one. let p = alike.back u b at_u in let q = alike.back v d at_v in joint.callers u v p.0 q.0 p.1 q.1 (sym p.2 ∙ one ∙ q.2);
        };
        traced = record {
          lawful = lawful;
          known = λ j e q at_d at_p. let p = alike.back j q at_p in
              subst (λ (φ : Facts). IfSome e.known (λ k. HoldsNode q.stage k.0 × (IsListed φ k.0 → ⊥) × (prev' k.0 ≡ k.1))) (sym same)
              (subst (λ (pr : ℕ → ℕ). IfSome e.known (λ k. HoldsNode q.stage k.0 × (IsListed f k.0 → ⊥) × (pr k.0 ≡ k.1))) (sym same_prevs)
              (subst (λ (s : Stage). IfSome e.known (λ k. HoldsNode s k.0 × (IsListed f k.0 → ⊥) × (prev k.0 ≡ k.1))) (sym p.3) (traced.known j e p.0 at_d p.1)));
          owes = λ j e q at_d at_p. let p = alike.back j q at_p in
              subst (λ (φ : Facts). IfSome e.owes (λ n. HoldsNode q.stage n × IsListed φ n)) (sym same)
              (subst (λ (s : Stage). IfSome e.owes (λ n. HoldsNode s n × IsListed f n)) (sym p.3) (traced.owes j e p.0 at_d p.1));
          prevs = subst (λ (φ : Facts). (n : ℕ) → IsListed φ n → φ.now n next_offset ≢ 0 → (prev' (φ.now n next_offset) ≡ n) ⊎ IsOwed (record { world = world; debts = z.debts }) n) (sym same)
              (λ n listed ne. ⊎_elim
              (λ e. inl (prevs (f.now n next_offset) ∙ e))
              (λ owed. let q = alike.forth owed.number owed.party owed.at in inr (record { number = owed.number; debt = owed.debt; party = q.0; there = owed.there; at = q.1; is = owed.is }))
              (traced.prevs n listed ne));
          order = subst (λ (φ : Facts). AreInOrder l.nodes (IsGone φ) prev') (sym same) (subst (AreInOrder l.nodes (IsGone f)) (sym same_prevs) traced.order);
          below = λ n. let was = prevs n in let low = traced.below n in omega arith;
        };
      },
      λ c j here low. ⊎_elim
          (λ none. inl (subst NeedsNoParty (sym (stay c j 0).0) none))
          (λ hand. inr (record { number = hand.number; line = hand.line; there = hand.there; caller = hand.caller; index = hand.index }))
          (is.1 c j here low),
    )

pub alike_footed : AlikeIsFooted
alike_footed z parties is lawful alike = moved_footed z z.world.words parties is lawful alike refl (λ n. refl) (λ c j offset. (refl, refl))

-- parties of which one is another of the same caller and stage
pub alike_here : (parties : List Party) (i : ℕ) (p q : Party) → get_elem? parties i ≡ some p → q.caller ≡ p.caller → q.stage ≡ p.stage → AreAlike parties (set parties i q)
alike_here parties i p q there caller stage = record {
  forth = λ j r at. ⊎_elim
      (λ (same : j ≡ i).
      let own : p ≡ r = some-injective _ _ (sym there ∙ ap (get_elem? parties) (sym same) ∙ at) in
      (q, ap (get_elem? (set parties i q)) same ∙ set_here parties i q p there, caller ∙ ap (λ (d : Party). d.caller) own, stage ∙ ap (λ (d : Party). d.stage) own))
      (λ (other : j ≢ i). (r, set_else parties i j q other ∙ at, refl, refl))
      (cases_eq j i);
  back = λ j r at. ⊎_elim
      (λ (mine : (j ≡ i) × (q ≡ r)).
      (p, ap (get_elem? parties) mine.0 ∙ there, ap (λ (d : Party). d.caller) (sym mine.1) ∙ caller, ap (λ (d : Party). d.stage) (sym mine.1) ∙ stage))
      (λ (other : (j ≢ i) × (get_elem? parties j ≡ some r)). (r, other.1, refl, refl))
      (at_set parties i j q r at);
}

pub start_footed : StartIsFooted
start_footed z i p index is there idle =
    let begun : Party = record { caller = p.caller; index = index; since = length z.world.history; stage = Idle } in
    alike_footed z (set z.world.parties i begun) is (start_law z.world i p index is.0.joint.lawful there idle) (alike_here z.world.parties i p begun there refl (sym idle))

-- a durable word of a line that is its cached twin stays so in a closer row
clean_word : (l : Layout) (words words' : List ℕ) → IsCloser l words words' → (c j offset : ℕ) → c < l.callers → j < 8
    → safe_line l words c j offset ≡ line_in l words c j offset → safe_line l words' c j offset ≡ line_in l words c j offset
unfolding safe_line line_in
clean_word l words words' closer c j offset here low = ⊎_elim
    (λ (small : offset < 8). rw (lt-ltb c l.callers here) (rw (lt-ltb j 8 low) (rw (lt-ltb offset 8 small)
    (λ same. ⊎_elim (λ stays. stays ∙ same) (λ copied. copied) (closer (Line c j offset) (here, low, small))))))
    (λ (past : 8 ≤ offset). rw (lt-ltb c l.callers here) (rw (lt-ltb j 8 low) (rw (le-ltb offset 8 past) (λ same. refl))))
    (cases_lt offset 8)

-- so what a call knows of its line stays
sure_closer : (l : Layout) (words words' : List ℕ) (e : HeldLine) → IsCloser l words words' → ((offset : ℕ) → line_in l words' e.caller e.number offset ≡ line_in l words e.caller e.number offset)
    → SureLine l words e → SureLine l words' e
sure_closer l words words' e closer line sure =
    let stays : (offset : ℕ) → safe_line l words e.caller e.number offset ≡ line_in l words e.caller e.number offset → safe_line l words' e.caller e.number offset ≡ line_in l words e.caller e.number offset =
    λ offset. clean_word l words words' closer e.caller e.number offset sure.here.0 sure.here.1 in
    let is : line_in l words' e.caller e.number ≡ line_in l words e.caller e.number = same_spots (line_in l words' e.caller e.number) (line_in l words e.caller e.number) line in
    record {
      here = sure.here;
      seen = subst (Tells e.seen) (sym is) sure.seen;
      clean = λ offset spared given. stays offset (sure.clean offset spared given) ∙ sym (line offset);
      hand = subst (λ (s : Spot). IfSome e.hand (λ h. (s h.0 ≡ h.1) ⊎ (IsGiven e h.0 × (h.1 ≡ 2)))) (sym is) sure.hand;
      unready = λ own two. sure.unready own (sym (line 0) ∙ two);
      waits = λ ready. let waits = sure.waits ready in subst (λ (s : Spot). IsWaiting l e.seen s (safe_line l words' e.caller e.number)) (sym is)
          (record { state = waits.state; entry = waits.entry; durable = λ offset other. stays offset (waits.durable offset other); blind = waits.blind });
    }

pub evict_footed : EvictIsFooted
evict_footed z word is within =
    let l = z.world.layout in
    let words = z.world.words in
    let words' : List ℕ = evicted l words word in
    let joint = is.0.joint in
    let closer : IsCloser l words words' = evict_closer l words word joint.lawful.row.whole within in
    let line : (c j o : ℕ) → line_in l words' c j o ≡ line_in l words c j o = λ c j o. line-alike l words words' c j o (λ has. evict_cached l words word (Line c j o) has) in (
      record {
        joint = record {
          lawful = evict_law z.world word joint.lawful within;
          fit = evict_fits l words word joint.lawful.row within joint.fit;
          sure = λ i e there. sure_closer l words words' e closer (line e.caller e.number) (joint.sure i e there);
          owned = joint.owned;
          callers = joint.callers;
        };
        traced = evict_traces (record { world = z.world; debts = z.debts }) word is.0.traced within;
      },
      λ c j here low. ⊎_elim
          (λ none. inl (subst NeedsNoParty (sym (line c j 0)) none))
          (λ hand. inr (record { number = hand.number; line = hand.line; there = hand.there; caller = hand.caller; index = hand.index }))
          (is.1 c j here low),
    )

no_line_held : (e : HeldLine) → Some e ≡ None → ⊥
no_line_held e is = cc

-- where no node is GONE, none has to come before another
pub none_in_order : (most : ℕ) (gone : ℕ → Type 0) (prev : ℕ → ℕ) → ((n : ℕ) → gone n → ⊥) → AreInOrder most gone prev
none_in_order most gone prev none = record { order = []; all = λ n is. absurd (none n is); ordered = tt; within = tt; once = tt }

-- an index of parties that have nothing, whose log lines need no party
pub free_footed : (z : Whole) → AreFree z.world.parties z.lines z.debts → Lawful z.world → AreFit z.world.layout z.world.words
    → ((c j : ℕ) → c < z.world.layout.callers → j < 8 → NeedsNoParty (line_in z.world.layout z.world.words c j state_offset))
    → ((n : ℕ) → IsListed (facts z.world) n → (facts z.world).now n next_offset ≢ 0 → prev_in z.world.layout z.world.words ((facts z.world).now n next_offset) ≡ n)
    → AreInOrder z.world.layout.nodes (IsGone (facts z.world)) (prev_in z.world.layout z.world.words) → ((n : ℕ) → prev_in z.world.layout z.world.words n < z.world.layout.nodes) → IsFooted z
free_footed z free lawful fit none follow order below = (
  record {
    joint = record {
      lawful = lawful;
      fit = fit;
      sure = λ i e there. absurd (no_line_held e (free.lines i (Some e) there));
      owned = λ i e there. absurd (no_line_held e (free.lines i (Some e) there));
      callers = λ u v b d at_u at_v same. sym (free.callers u b at_u) ∙ same ∙ free.callers v d at_v;
    };
    traced = rest_traced (record { world = z.world; debts = z.debts }) (idle_law z.world lawful free.idle) free.debts follow order below;
  },
  λ c j here low. inl (none c j here low),
)

-- what is 0, or not there
guarded : (b : Bool) (x : ℕ) → (b ≡ true → x ≡ 0) → cond b x 0 ≡ 0
guarded true x is = is refl
guarded false x is = refl

guarded_twice : (a b : Bool) (x : ℕ) → (a ≡ true → b ≡ true → x ≡ 0) → cond (a && (b && true)) x 0 ≡ 0
guarded_twice true true x is = is refl refl
guarded_twice true false x is = refl
guarded_twice false b x is = refl

module _ (l : Layout) (layout : IsLayout l) where
  first_here : 0 < l.nodes
  first_here = let least = layout.nodes in omega arith

  -- only node 0's status is stored
  stays_zero : (p : Location) → HasLocation l p → p ≢ Volatile 0 status_offset → at l (marked_row l) p ≡ 0 → at l (fresh_row l) p ≡ 0
  stays_zero p has other zero = at-set_other l (marked_row l) (Volatile 0 status_offset) p live_status (first_here, omega arith) has other ∙ zero

  -- so the lines are EMPTY, both twins,
  empty_line : (c j : ℕ) → line_in l (fresh_row l) c j state_offset ≡ empty_state
  unfolding line_in
  empty_line c j = guarded_twice _ _ (at l (fresh_row l) (Cached (Line c j state_offset))) (λ here low.
      let has : HasWord l (Line c j state_offset) = (ltb-true c l.callers here, ltb-true j 8 low, omega arith) in
      stays_zero (Cached (Line c j state_offset)) has (λ e. cc) ((marked-at l (Line c j state_offset) layout has).0 ∙ fresh_at l (Line c j state_offset) has))

  empty_safe : (c j : ℕ) → safe_line l (fresh_row l) c j 0 ≡ 0
  unfolding safe_line
  empty_safe c j = guarded_twice _ _ (at l (fresh_row l) (Durable (Line c j state_offset))) (λ here low.
      let has : HasWord l (Line c j state_offset) = (ltb-true c l.callers here, ltb-true j 8 low, omega arith) in
      stays_zero (Durable (Line c j state_offset)) has (λ e. cc) ((marked-at l (Line c j state_offset) layout has).1 ∙ fresh_at l (Line c j state_offset) has))

  -- the prevs 0,
  zero_prev : (n : ℕ) → prev_in l (fresh_row l) n ≡ 0
  unfolding prev_in
  zero_prev n = guarded _ (at l (fresh_row l) (Volatile n prev_offset)) (λ here.
      let has : HasLocation l (Volatile n prev_offset) = (ltb-true n l.nodes here, omega arith) in
      stays_zero (Volatile n prev_offset) has (λ e. let no : 1 ≡ 0 = ap offset_at e in omega arith) (marked-at_volatile l (Volatile n prev_offset) has (omega arith) (λ e. cc)))

  -- the other nodes FREE,
  zero_status : (n : ℕ) → n ≢ 0 → status_in l (fresh_row l) n ≡ free_status
  unfolding status_in
  zero_status n other = guarded _ (at l (fresh_row l) (Volatile n status_offset)) (λ here.
      let has : HasLocation l (Volatile n status_offset) = (ltb-true n l.nodes here, omega arith) in
      stays_zero (Volatile n status_offset) has (λ e. other (ap node_at e)) (marked-at_volatile l (Volatile n status_offset) has (omega arith) (λ e. cc)))

  -- and no node leads to another
  zero_next : (n : ℕ) → n < l.nodes → spot_in l (fresh_row l) n next_offset ≡ 0
  zero_next n here =
      let has : HasWordAt l n next_offset = (here, omega arith) in
      spot_in-here l (fresh_row l) n next_offset has (omega arith)
      ∙ stays_zero (Cached (Node n next_offset)) has (λ e. cc) ((marked-at l (Node n next_offset) layout has).0 ∙ fresh_at l (Node n next_offset) has)

pub fresh_footed : FreshIsFooted
fresh_footed l parties lines debts layout free since =
    let w = fresh_world l parties in
    let lawful : Lawful w = rest_law w (fresh_law l parties layout free.idle since) in
    free_footed (record { world = w; lines = lines; debts = debts }) free lawful
    (λ c j mix is. inl (⊎_elim (λ durably. durably ∙ empty_safe l layout c j) (λ cached. cached ∙ empty_line l layout c j) (is 0)))
    (λ c j here low. inl (empty_line l layout c j))
    (λ n listed ne. absurd (ne (zero_next l layout n (listed_within l (facts w) lawful.list layout n listed))))
    (none_in_order _ _ _ none_gone)
    (λ n. let zero = zero_prev l layout n in let here = first_here l layout in omega arith)
  where
    none_gone : (n : ℕ) → IsGone (facts (fresh_world l parties)) n → ⊥
    none_gone n gone = ⊎_elim
        (λ (first : n ≡ 0).
        let lit : status_in l (fresh_row l) n ≡ live_status = (rest_law (fresh_world l parties) (fresh_law l parties layout free.idle since)).live.live n (inl first) in
        let is : status_in l (fresh_row l) n ≡ gone_status = gone in absurd (omega arith))
        (λ (other : n ≢ 0). let zero = zero_status l layout n other in let is : status_in l (fresh_row l) n ≡ gone_status = gone in absurd (omega arith))
        (cases_eq n 0)

-- an index with no call in flight, with other idle parties
pub rest_footed : RestIsFooted
rest_footed z parties lines debts is was free lawful =
    free_footed (record { world = record (z.world) { parties = parties }; lines = lines; debts = debts }) free lawful is.0.joint.fit
    (λ c j here low. ⊎_elim
    (λ none. none)
    (λ hand. absurd (no_line_held hand.line (was.lines hand.number (Some hand.line) hand.there)))
    (is.1 c j here low))
    (λ n listed ne. idle_follow (record { world = z.world; debts = z.debts }) n is.0.traced was.idle listed ne)
    is.0.traced.order is.0.traced.below

-- an index with another stamp of a node
pub stamp_footed : StampIsFooted
stamp_footed z n is here lawful =
    let l = z.world.layout in
    let words = z.world.words in
    let p : Location = Volatile n stamp_offset in
    let has : HasLocation l (Volatile n stamp_offset) = (here, omega arith) in
    moved_footed z (set words (address_of l (Volatile n stamp_offset)) 1) z.world.parties is lawful
    (record { forth = λ i q there. (q, there, refl, refl); back = λ i q there. (q, there, refl, refl) })
    (facts-elsewhere l words z.world.base z.world.history (Volatile n stamp_offset) 1 has (λ m o e. cc, λ m e. let no : 2 ≡ 0 = ap offset_at e in omega arith))
    (store_prev l words (Volatile n stamp_offset) 1 has (λ k e. let no : 1 ≡ 2 = ap offset_at e in omega arith))
    (store_leaves l words (Volatile n stamp_offset) 1 has (λ c j o. (λ e. cc, λ e. cc)))

-- an index with no call in flight as its next round begins, with other idle parties
pub round_footed : RoundIsFooted
round_footed z parties lines debts is was free lawful =
    let l = z.world.layout in
    let words = z.world.words in
    let f = facts z.world in
    let words' : List ℕ = set words (address_of l Clock) 0 in
    let prev : ℕ → ℕ = prev_in l words in
    let prev' : ℕ → ℕ = prev_in l words' in
    let same : facts (next_round z.world parties) ≡ facts_of l words (map_now f) [] = facts-elsewhere l words (map_now f) [] Clock 0 tt (λ m o e. cc, λ m e. cc) in
    let prevs : (n : ℕ) → prev' n ≡ prev n = store_prev l words Clock 0 tt (λ k e. cc) in
    let same_prevs : prev' ≡ prev = λ i n. prevs n i in
    let stay : (c j o : ℕ) → LinesStay l words words' c j o = store_leaves l words Clock 0 tt (λ c j o. (λ e. cc, λ e. cc)) in
    free_footed (record { world = next_round z.world parties; lines = lines; debts = debts }) free lawful (fit_same l words words' stay is.0.joint.fit)
    (λ c j here low. subst NeedsNoParty (sym (stay c j 0).0) (⊎_elim
    (λ none. none)
    (λ hand. absurd (no_line_held hand.line (was.lines hand.number (Some hand.line) hand.there)))
    (is.1 c j here low)))
    (subst (λ (φ : Facts). (n : ℕ) → IsListed φ n → φ.now n next_offset ≢ 0 → prev' (φ.now n next_offset) ≡ n) (sym same)
    (λ n listed ne. prevs (f.now n next_offset) ∙ idle_follow (record { world = z.world; debts = z.debts }) n is.0.traced was.idle listed ne))
    (subst (λ (φ : Facts). AreInOrder l.nodes (IsGone φ) prev') (sym same) (subst (AreInOrder l.nodes (IsGone f)) (sym same_prevs) is.0.traced.order))
    (λ n. let before = prevs n in let low = is.0.traced.below n in omega arith)
