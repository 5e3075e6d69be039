-- The one index in which all callers have met.
use Rattle.std.proofs.Common.{suc, ◌≡◌, ℕ, ◌*◌, ◌/◌, ◌<◌, true, List, map, length, get_or, refl, sym, ap, ◌∙◌, subst, arith, ◌≢◌, ◌+◌, ◌≤◌, [], ◌∷◌}
use Rattle.std.specs.Prelude.{Some, slice_get, slice_index, None}
use mathlib.Core.Option.{some, some-injective}
use lib.ListN.{get_elem?}
use Rattle.cat_history.specs.declared.op.Write.{Write}
use Rattle.call_stages.specs.Kinds.{clock_address}
use Rattle.index_core.specs.declared.party.PartyState.{PartyState}
use Rattle.index_core.specs.Indexes.{Index, IsIndex, parties_of}
use Rattle.index_core.specs.Lone.{HasNoCalls, HasNoTurns}
use Rattle.index_core.proofs.Lists.{map_there, there_is, within}
use Rattle.atomic_table.specs.Table.{Final, Me, Seen, State}
use Rattle.pac_index.specs.declared.rule.About.{About}
use Rattle.pac_index.specs.declared.caller.Caller.{Caller}
use Rattle.pac_index.specs.declared.caller.PlacedWrite.{PlacedWrite}
use Rattle.pac_index.specs.declared.shared.Shared.{Shared}
use Rattle.pm_words.specs.declared.layout.Layout.{Layout}
use Rattle.pm_words.specs.Images.{Row}
use Rattle.pac_index.specs.Stamps.{stamp_in, SettlesTo}
use Rattle.pac_index.specs.Kept.{index_of, placed_by, Begins, Fits, added_in, added_in_all, one_of, opening_weight, Kept}
use Rattle.epochs.proofs.ViewSums.{in_two}
use Rattle.pac_index.proofs.Lists.{times_there, added_only}
use Rattle.index_core.specs.Weights.{weight_of}
use Rattle.pac_index.specs.declared.rule.Member.{Member}
use Rattle.index_core.specs.MachineLaws.{showing}
use Rattle.pac_index.specs.Callers.{AreAtRest, AreWritesOf, HasCallers, IsAtRest, Meeting, added_by_all, pairs, kept_by, seen_by}
use Rattle.index_core.specs.MachineLaws.{AreIdle}
use Rattle.index_core.proofs.MachineLaw.{with_idle, idle_weigh}
use Rattle.pac_index.proofs.Gathered.{or_is, writes_gathered}
use Rattle.pm_words.specs.Locations.{Clock}
use Rattle.pm_words.proofs.Apart.{addresses_within}

pub record IsClosed (s : Shared) (callers : List Caller) (words : List ℕ) : Type 0 where
  pub history : List Write
  pub index : (states : List PartyState) → AreIdle states (parties_of s.about.layout) → IsIndex (index_of s.about words states history)
  pub seen : (i : ℕ) (c : Caller) → get_elem? callers i ≡ some c → Begins (seen_by c).seen history
  pub own : (i : ℕ) (c : Caller) → get_elem? callers i ≡ some c → placed_by i history ≡ pairs c.kept.items
  pub own_seen : (i : ℕ) (c : Caller) → get_elem? callers i ≡ some c → placed_by i history ≡ placed_by i (seen_by c).seen
  pub writers : (place : ℕ) (w : Write) → slice_get history place ≡ Some w → w.caller < length callers
  pub weight : weight_of (index_of s.about words [] history) ≤ opening_weight s.about + added_by_all callers
  pub full : (i : ℕ) (c : Caller) → get_elem? callers i ≡ some c → (seen_by c).none_free ≡ true → s.about.layout.nodes * (s.about.layout.slots / 2) ≤ opening_weight s.about + added_by_all callers

-- what callers show who are idle
added_idle : (callers : List Caller) → ((i : ℕ) (c : Caller) → get_elem? callers i ≡ some c → (seen_by c).state.machine ≡ None) → added_in (map seen_by callers) ≡ added_by_all callers
added_idle [] idle = refl
added_idle (c ∷ cs) idle = let here = ap showing (idle 0 c refl) in let rest = added_idle cs (λ i d at. idle (suc i) d at) in omega arith

-- each party stands in the one view, so the others are empty
pub others_empty : (about : About) (callers : List Caller) (id : ℕ) (s : State (Unit {0}) (List Member)) (kept : Kept about s) → get_elem? s.views id ≡ some (map seen_by callers) → ((i : ℕ) (c : Caller) → get_elem? callers i ≡ some c → (seen_by c).state.caller ≡ i)
    → parties_of about.layout ≡ length callers → (j : ℕ) (u : List Member) → j ≢ id → get_elem? s.views j ≡ some u → u ≡ []
others_empty about callers id s kept all number count j u away at = empty u (λ m first.
    let mine = kept.fits j u at 0 m first in
    let less = within kept.states m.state.caller m.state mine.there in
    let many = kept.index.parties in
    let here = there_is callers m.state.caller (omega arith) in
    let one = times_there m.state.caller (map seen_by callers) m.state.caller (seen_by here.0) (map_there seen_by callers m.state.caller here.0 here.1) (number m.state.caller here.0 here.1) in
    let two = times_there m.state.caller u 0 m first refl in
    let both = in_two (one_of m.state.caller) s.views id j (map seen_by callers) u (λ e. away (sym e)) all at in
    let once = kept.once m.state.caller in
    omega arith)
  where
    empty : (u : List Member) → ((m : Member) → get_elem? u 0 ≡ some m → ⊥) → u ≡ []
    empty [] none = refl
    empty (m ∷ ms) none = absurd (none m refl)

-- the table's last state, with the one view of all callers
pub final_of : (s : Shared) (callers : List Caller) (id : ℕ) (me : Me (Unit {0}) (List Member)) (words : List ℕ) (slots : List (Unit {0})) → me ≡ (map seen_by callers, []) → Final (Seen (Kept s.table.shared.key) id me.0) words slots → Final (Seen (Kept s.table.shared.key) id (map seen_by callers)) words slots
final_of s callers id me words slots is final = subst (λ (v : List Member). Final (Seen (Kept s.table.shared.key) id v) words slots) (ap (λ (q : Me (Unit {0}) (List Member)). q.0) is) final

pub closes : (s : Shared) (callers : List Caller) (id : ℕ) (words : List ℕ) (slots : List (Unit {0})) → HasCallers s (parties_of s.about.layout) callers → AreAtRest callers → Final (Seen (Kept s.table.shared.key) id (map seen_by callers)) words slots
    → IsClosed s callers words
closes s callers id words slots has rests final =
    let key = s.table.shared.key in
    let st = final.0 in
    let kept = final.1.0 in
    let h = kept.history in
    let old = index_of key st.words kept.states h in
    let same : key ≡ s.about = s.key in
    let fit : (i : ℕ) (c : Caller) → get_elem? callers i ≡ some c → Fits key kept.states h (seen_by c) = λ i c at. kept.fits id (map seen_by callers) final.1.1 i (seen_by c) (map_there seen_by callers i c at) in
    let number : (i : ℕ) (c : Caller) → get_elem? callers i ≡ some c → (seen_by c).state.caller ≡ i = λ i c at. (has.each i c at).number ∙ has.numbers i c at in
    let count : parties_of key.layout ≡ length callers = ap (λ (b : About). parties_of b.layout) same ∙ sym has.count in
    let state_of : (i : ℕ) (e : PartyState) → get_elem? old.states i ≡ some e → (c : Caller) × IsAtRest c × (e ≡ (seen_by c).state) = λ i e at.
    let less = within kept.states i e at in
    let many = kept.index.parties in
    let here = there_is callers i (omega arith) in
    let there : get_elem? kept.states i ≡ some (seen_by here.0).state = ap (get_elem? kept.states) (sym (number i here.0 here.1)) ∙ (fit i here.0 here.1).there in
    (here.0, rests i here.0 here.1, some-injective _ _ (sym at ∙ there)) in
    let calls : HasNoCalls old = λ i e at. let c = state_of i e at in ap (λ (d : PartyState). d.machine) c.2 ∙ c.1.0 in
    let turns : HasNoTurns old = λ i e at. let c = state_of i e at in ap (λ (d : PartyState). d.turn) c.2 ∙ c.1.1 in
    let others = others_empty key callers id st kept final.1.1 number count in
    let added : added_in_all st.views ≡ added_by_all callers =
    added_only st.views id (map seen_by callers) final.1.1 others ∙ added_idle callers (λ i c at. (rests i c at).0) in
    record {
      history = h;
      index = λ states idle. subst IsIndex (λ k. index_of (same k) (final.2 k) states h) (with_idle old states kept.index calls turns (subst (λ (n : ℕ). AreIdle states n) (ap (λ (b : About). parties_of b.layout) (sym same)) idle));
      seen = λ i c at. (fit i c at).seen;
      own = λ i c at. subst (λ (n : ℕ). placed_by n h ≡ pairs c.kept.items) (number i c at)
          ((fit i c at).own ∙ subst (λ (n : ℕ). placed_by (seen_by c).state.caller (seen_by c).seen ≡ placed_by n (seen_by c).seen) (has.each i c at).number refl ∙ sym (has.each i c at).kept);
      own_seen = λ i c at. subst (λ (n : ℕ). placed_by n h ≡ placed_by n (seen_by c).seen) (number i c at) (fit i c at).own;
      writers = λ place w at. let less = kept.index.bounded.writers place w at in omega arith;
      weight =
          let sum = kept.weight in
          let as_weight = idle_weigh old calls in
          let weighs : weight_of old ≤ opening_weight key + added_by_all callers = omega arith in
          subst (λ (q : About × List ℕ). weight_of (index_of q.0 q.1 [] h) ≤ opening_weight q.0 + added_by_all callers) (λ k. (same k, final.2 k)) weighs;
      full = λ i c at noted.
          let half = kept.full id (map seen_by callers) final.1.1 i (seen_by c) (map_there seen_by callers i c at) noted in
          subst (λ (q : About × ℕ). q.0.layout.nodes * (q.0.layout.slots / 2) ≤ opening_weight q.0 + q.1) (λ k. (same k, added k)) half;
    }

-- all that the callers have kept are the writes of that history
pub closed_writes : (s : Shared) (callers : List Caller) (words : List ℕ) (z : IsClosed s callers words) → AreWritesOf (kept_by callers) z.history
closed_writes s callers words z = writes_gathered callers z.history (λ i c at. sym (z.own i c at)) (λ place w at. there_is callers w.caller (z.writers place w at))

-- whose length the clock tells
pub closed_clock : (s : Shared) (callers : List Caller) (words : List ℕ) (z : IsClosed s callers words) (states : List PartyState) → AreIdle states (parties_of s.about.layout) → slice_index words 0 ≡ length z.history
closed_clock s callers words z states idle = let place : clock_address s.about.layout ≡ 0 = omega arith in ap (slice_index words) (sym place) ∙ (z.index states idle).lawful.clock

pub closed_word : (s : Shared) (callers : List Caller) (words : List ℕ) (z : IsClosed s callers words) (states : List PartyState) → AreIdle states (parties_of s.about.layout) → (d : ℕ) → length z.history ≡ get_or words 0 d
closed_word s callers words z states idle d =
    let row = (z.index states idle).lawful.row in
    let whole = row.whole in
    let some_words = addresses_within s.about.layout Clock tt in
    let here = there_is words 0 (omega arith) in
    sym (closed_clock s callers words z states idle) ∙ or_is words 0 here.0 0 here.1 ∙ sym (or_is words 0 here.0 d here.1)

pub meeting_in : (s : Shared) (callers : List Caller) (words settled : List ℕ) (z : IsClosed s callers words) (states : List PartyState) (core : Index) → AreIdle states (parties_of s.about.layout)
    → SettlesTo s.about.layout words settled → core ≡ record (index_of s.about settled states z.history) { spare = core.spare } → IsIndex core → Meeting s callers core
meeting_in s callers words settled z states core idle settles is index =
    let history : core.history ≡ z.history = ap (λ (i : Index). i.history) is in
    record {
      layout = ap (λ (i : Index). i.layout) is;
      generation = ap (λ (i : Index). i.generation) is;
      base = ap (λ (i : Index). i.base) is;
      full = z.full;
      weight = subst (λ (n : ℕ). n ≤ opening_weight s.about + added_by_all callers) (sym (ap weight_of is ∙ settles.weighs (index_of s.about settled states z.history))) z.weight;
      index = index;
      quiet = record {
        calls = λ i e at. idle.idle i e (ap (λ (i' : Index). get_elem? i'.states i) (sym is) ∙ at);
        turns = λ i e at. idle.resting i e (ap (λ (i' : Index). get_elem? i'.states i) (sym is) ∙ at);
        rechecks = λ i e at. idle.unchecked i e (ap (λ (i' : Index). get_elem? i'.states i) (sym is) ∙ at);
      };
      seen = λ i c at. subst (Begins (seen_by c).seen) (sym history) (z.seen i c at);
      own = λ i c at. ap (placed_by i) history ∙ z.own_seen i c at;
      clock = index.lawful.clock;
      stamps = λ n low.
          let one : stamp_in s.about.layout settled n ≤ 1 = let small = settles.stamps n (subst (λ (l : Layout). n < l.nodes) (ap (λ (i : Index). i.layout) is) low) in omega arith in
          subst (λ (i : Index). stamp_in i.layout i.words n ≤ 1) (sym is) one;
      writers = λ place w at. z.writers place w (ap (λ (l : List Write). slice_get l place) (sym history) ∙ at);
    }

-- What is taken of the callers, and of the words as the table closed: idle parties, the writes that were kept, and the
-- clock, which is the length of their history.
pub record IsTaken (s : Shared) (callers : List Caller) (words : List ℕ) (states : List PartyState) (kept : List PlacedWrite) (clock : ℕ) : Type 0 where
  pub closed : IsClosed s callers words
  pub idle : AreIdle states (parties_of s.about.layout)
  pub long : length closed.history ≡ clock
  pub writes : AreWritesOf kept closed.history

pub taken : (s : Shared) (callers : List Caller) (id : ℕ) (me : Me (Unit {0}) (List Member)) (words : List ℕ) (slots : List (Unit {0})) (states : List PartyState) (kept : List PlacedWrite) (clock d : ℕ) (looked : List Caller) → HasCallers s (parties_of s.about.layout) callers → AreAtRest callers
    → me ≡ (map seen_by callers, []) → Final (Seen (Kept s.table.shared.key) id me.0) words slots → looked ≡ callers → AreIdle states (length looked) → kept ≡ kept_by callers → clock ≡ get_or words 0 d → IsTaken s callers words states kept clock
taken s callers id me words slots states kept clock d looked has rests all final same are_idle keeps first =
    let z = closes s callers id words slots has rests (final_of s callers id me words slots all final) in
    let idle = subst (λ (n : ℕ). AreIdle states n) (ap length same ∙ has.count) are_idle in
    record {
      closed = z;
      idle = idle;
      long = closed_word s callers words z states idle d ∙ sym first;
      writes = subst (λ (l : List PlacedWrite). AreWritesOf l z.history) (sym keeps) (closed_writes s callers words z);
    }

-- the row that is made of the words, once its stamps are settled
pub settled_so : (s : Shared) (words found : List ℕ) (before after : Row) → before ≡ record { layout = s.about.layout; words = found } → found ≡ words → after.layout ≡ before.layout → SettlesTo before.layout before.words after.words → (after.layout ≡ s.about.layout) × SettlesTo s.about.layout words after.words
settled_so s words found before after of is layout settles =
    let made : before ≡ record { layout = s.about.layout; words = words } = of ∙ (λ k. record { layout = s.about.layout; words = is k }) in (
      layout ∙ ap (λ (r : Row). r.layout) made,
      subst (λ (r : Row). SettlesTo r.layout r.words after.words) made settles,
    )

-- and the index that is made of it, and of what is taken
module _ (s : Shared) (callers : List Caller) (words : List ℕ) (states : List PartyState) (kept : List PlacedWrite) (clock : ℕ) (row : Row) (history : List Write) (t : IsTaken s callers words states kept clock) (same : history ≡ t.closed.history) (made : (row.layout ≡ s.about.layout) × SettlesTo s.about.layout words row.words) where
  pub settled_index : IsIndex (record { layout = row.layout; generation = s.about.generation; words = row.words; states = states; base = s.about.base; history = history; spare = 0 })
  settled_index =
      subst IsIndex (λ k. record { layout = sym made.0 k; generation = s.about.generation; words = row.words; states = states; base = s.about.base; history = sym same k; spare = 0 }) (made.1.keeps (index_of s.about words states t.closed.history) (record { calls = t.idle.idle; turns = t.idle.resting; rechecks = t.idle.unchecked }) (t.closed.index states t.idle))

  pub settled_meets : (core : Index) → core ≡ record { layout = row.layout; generation = s.about.generation; words = row.words; states = states; base = s.about.base; history = history; spare = core.spare } → IsIndex core → Meeting s callers core
  settled_meets core is index =
      meeting_in s callers words row.words t.closed states core t.idle made.1
      (is ∙ (λ k. record { layout = made.0 k; generation = s.about.generation; words = row.words; states = states; base = s.about.base; history = same k; spare = core.spare })) index
