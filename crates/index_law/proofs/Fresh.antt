-- In the row of a fresh image nothing is in flight, and its node means the empty map.
use Rattle.std.proofs.Common.{◌≡◌, ◌≢◌, ℕ, zero, suc, ◌+◌, ◌*◌, ◌^◌, ◌<◌, ◌≤◌, ◌==◌, Bool, true, false, cond, List, [], slice_index, inl, inr, ⊎_elim, refl, sym, ap, ◌∙◌, subst, arith}
use Rattle.std.specs.Prelude.{if◌then◌else◌, Some, None}
use Rattle.std.specs.FinMap.{empty, get-empty}
use Rattle.cat_key.specs.Names.{name_cmp}
use Rattle.std.proofs.lemmas.Bool.{cases_eq, eq-eqb, ne_eqb}
use Rattle.pm_words.specs.Codes.{gone_status, live_status, free_status}
use Rattle.pm_words.specs.declared.layout.Layout.{Layout}
use Rattle.pm_words.specs.Layouts.{IsLayout}
use Rattle.pm_words.specs.Images.{fresh_word}
use Rattle.pm_words.specs.Locations.{Word, Header, Root, Node, Line, Leaf, Cell, Volatile, Cached, Durable, Clock, HasWord, at}
use Rattle.pm_words.specs.Rows.{CanAct}
use Rattle.pm_words.specs.declared.action.Action.TheVariants.{Store}
use Rattle.pm_words.proofs.Apart.{addresses_within, at-set_other}
use Rattle.pm_words.proofs.Kept.{acted_row}
use Rattle.pm_words.proofs.Made.{fresh_at}
use Rattle.version_lock.specs.Versions.{generation_of, IsFree}
use Rattle.data_node.proofs.SpotLemmas.{means_empty}
use Rattle.call_stages.specs.Kinds.{HasWordAt, word_address, status_address}
use Rattle.data_node.specs.Spots.{Finds}
use Rattle.data_node.specs.Lists.{anchor_in}
use Rattle.index_law.specs.Facts.{Facts, facts_of, version_in, status_in, spot_in, list_in, durable_spot, range_of, IsListed}
use Rattle.index_law.specs.Worlds.{Party, facts}
use Rattle.index_law.specs.Lawful.{IsList, AreLive, IsSettled, AreKnown}
use Rattle.index_law.specs.Twins.{IsBlank, IsFront}
use Rattle.data_node.proofs.ListLemmas.{chain_is}
use Rattle.pm_words.specs.Offsets.{version_offset, bitmap_offset, next_offset, status_offset, generation_offset}
use Rattle.index_law.proofs.Actions.{status_outside}
use Rattle.index_law.proofs.Twins.{IsNearer, nearer, store_closer, closer_spot, closer_versions, closer_front, cached_front}
use Rattle.index_law.specs.Laws.{marked_row, FreshIsAtRest, fresh_world}
use Rattle.index_law.proofs.MarkedRow.{marked-at, marked-at_volatile, marked_row-row}
use Rattle.index_law.proofs.Rows.{in_spot, in_spot-true, version_in-here, status_in-here, spot_in-here, with_status, facts-status}

-- each word of a node is 0
fresh_zero : (l : Layout) (n offset : ℕ) → IsLayout l → HasWordAt l n offset → slice_index (marked_row l) (word_address l n offset) ≡ 0
fresh_zero l n offset layout has = (marked-at l (Node n offset) layout has).0 ∙ fresh_at l (Node n offset) has

fresh_version : (l : Layout) (n : ℕ) → IsLayout l → n < l.nodes → version_in l (marked_row l) n ≡ 0
fresh_version l n layout here = version_in-here l (marked_row l) n here ∙ fresh_zero l n version_offset layout (here, omega arith)

-- both twins of each word are the image's
fresh_cached : (l : Layout) (w : Word) → IsLayout l → HasWord l w → at l (marked_row l) (Cached w) ≡ fresh_word l w
fresh_cached l w layout has = (marked-at l w layout has).0 ∙ fresh_at l w has

fresh_durable : (l : Layout) (w : Word) → IsLayout l → HasWord l w → at l (marked_row l) (Durable w) ≡ fresh_word l w
fresh_durable l w layout has = (marked-at l w layout has).1 ∙ fresh_at l w has

-- the twins of a node's words are alike
fresh_twins : (l : Layout) (n offset : ℕ) → IsLayout l → durable_spot l (marked_row l) n offset ≡ spot_in l (marked_row l) n offset
unfolding durable_spot spot_in
fresh_twins l n offset layout =
    elim (in_spot l n offset) as (λ b. in_spot l n offset ≡ b
    → cond b (at l (marked_row l) (Durable (Node n offset))) 0 ≡ cond b (at l (marked_row l) (Cached (Node n offset))) 0) [
      | true ↦ λ is.
          let has = (in_spot-true l n offset is).0 in
          let both = marked-at l (Node n offset) layout has in
          both.1 ∙ sym both.0
      | false ↦ λ is. refl
    ] refl

-- a blank word is 0
blank_zero : (l : Layout) (w : Word) → IsBlank w → HasWord l w × (fresh_word l w ≡ 0)
blank_zero l (Header o) is = (
  is.1,
  elim (cases_eq o 6) [
    | inl six ↦ subst (λ (i : ℕ). fresh_word l (Header i) ≡ 0) (sym six) refl
    | inr other ↦ subst (λ (i : ℕ). fresh_word l (Header i) ≡ 0) (let seven : 7 ≡ o = omega (arith, other) in seven) refl
  ],
)
blank_zero l (Root zero) is = absurd (let no : 1 ≤ 0 = is.0 in omega arith)
blank_zero l (Root (suc o)) is = (is.1, refl)
blank_zero l (Node n o) is = absurd is
blank_zero l (Line c j o) is = absurd is
blank_zero l (Leaf k o) is = absurd is
blank_zero l (Cell kind k o) is = absurd is

-- each status is 0
fresh_status : (l : Layout) (n : ℕ) → IsLayout l → n < l.nodes → status_in l (marked_row l) n ≡ free_status
fresh_status l n layout here = status_in-here l (marked_row l) n here ∙ marked-at_volatile l (Volatile n status_offset) (here, omega arith) (omega arith) (λ e. cc)

module _ (l : Layout) (parties : List Party) (layout : IsLayout l) where
  abbrev row : List ℕ
  row = marked_row l

  some : 0 < l.nodes
  some = let least = layout.nodes in omega arith

  -- the facts: node 0 is LIVE
  same : facts (fresh_world l parties) ≡ with_status (facts_of l row empty []) 0 live_status
  same = facts-status l row empty [] 0 live_status (marked_row-row l layout).whole some

  next_zero : spot_in l row 0 next_offset ≡ 0
  next_zero =
      let has : HasWordAt l 0 next_offset = (some, omega arith) in
      spot_in-here l row 0 next_offset has (omega arith) ∙ fresh_zero l 0 next_offset layout has

  anchor_zero : anchor_in (spot_in l row 0) ≡ 0
  unfolding anchor_in
  anchor_zero =
      let word : (o : ℕ) → 3 ≤ o → o ≤ 5 → spot_in l row 0 o ≡ 0 =
      λ o low high. let has : HasWordAt l 0 o = (some, omega arith) in spot_in-here l row 0 o has (omega arith) ∙ fresh_zero l 0 o layout has in
      λ k. (word 3 (omega arith) (omega arith) k * 2 ^ 64 + word 4 (omega arith) (omega arith) k) * 2 ^ 64 + word 5 (omega arith) (omega arith) k

  none : list_in l row ≡ []
  none = chain_is (spot_in l row) l.nodes 0 [] next_zero (omega arith)

  abbrev lit : Facts
  lit = record { version = version_in l row; status = λ m. if m == 0 then live_status else status_in l row m; now = spot_in l row; list = []; base = empty; history = [] }

  same_lit : facts (fresh_world l parties) ≡ lit
  same_lit = same ∙ (λ k. record {
    version = version_in l row;
    status = λ m. if m == 0 then live_status else status_in l row m;
    now = spot_in l row;
    list = none k;
    base = empty;
    history = [];
  })

  bitmap_zero : spot_in l row 0 bitmap_offset ≡ 0
  bitmap_zero =
      let has : HasWordAt l 0 bitmap_offset = (some, omega arith) in
      spot_in-here l row 0 bitmap_offset has (omega arith) ∙ fresh_zero l 0 bitmap_offset layout has

  closer : IsNearer l row (fresh_world l parties).words
  closer = nearer l row (fresh_world l parties).words (store_closer l row (Volatile 0 status_offset) live_status (some, omega arith) (λ w alike. cc))

  settled_lit : (n : ℕ) → IsListed lit n → IsSettled l lit n
  settled_lit n (inl e) = subst (IsSettled l lit) (sym e) (record {
    means = means_empty l.slots (range_of l lit 0) (spot_in l row 0) bitmap_zero;
    stays = λ name is outside. subst (Finds l.slots (spot_in l row 0) name) (get-empty name_cmp name) ((means_empty l.slots (λ k. true) (spot_in l row 0) bitmap_zero).agrees name is refl);
  })
  settled_lit n (inr among) = absurd among

  live_lit : AreLive l 1 lit
  live_lit = record {
    live = λ n is. ⊎_elim (λ (e : n ≡ 0). ap (λ (b : Bool). cond b live_status (status_in l row n)) (eq-eqb n 0 e)) (λ among. absurd among) is;
    listed = λ n here is free. ⊎_elim
        (λ (e : n ≡ 0). inl e)
        (λ (other : n ≢ 0).
        let zero : (if n == 0 then live_status else status_in l row n) ≡ 0 = ap (λ (b : Bool). cond b live_status (status_in l row n)) (ne_eqb n 0 other) ∙ fresh_status l n layout here in
        absurd (let no : 0 ≡ 1 = sym zero ∙ is in omega arith))
        (cases_eq n 0);
    three = λ n here. ⊎_elim
        (λ (e : n ≡ 0). subst (λ u. u ≤ gone_status) (sym (ap (λ (b : Bool). cond b live_status (status_in l row n)) (eq-eqb n 0 e))) (omega arith))
        (λ (other : n ≢ 0).
        subst (λ u. u ≤ gone_status) (sym (ap (λ (b : Bool). cond b live_status (status_in l row n)) (ne_eqb n 0 other) ∙ fresh_status l n layout here)) (omega arith))
        (cases_eq n 0);
    leads = λ n here is. let has : HasWordAt l n next_offset = (here, omega arith) in
        let zero : spot_in l row n next_offset ≡ 0 = spot_in-here l row n next_offset has (omega arith) ∙ fresh_zero l n next_offset layout has in omega arith;
  }

  list_lit : IsList l lit
  list_lit = record { chain = next_zero; lowest = anchor_zero; rise = tt; within = tt; named = tt }

pub fresh_law : FreshIsAtRest
fresh_law l parties layout idle begun =
    let w = fresh_world l parties in
    let row = marked_row l in
    let here : 0 < l.nodes = some l parties layout in
    let is = same_lit l parties layout in
    let whole = marked_row-row l layout in
    let can : CanAct l row (Store (status_address l 0) live_status) = ((addresses_within l (Volatile 0 status_offset) (here, omega arith), status_outside l 0 here), omega arith) in
    let near = closer l parties layout in
    let known : AreKnown l 1 (facts_of l row empty []) = λ n below. subst (λ (v : ℕ). generation_of v ≤ 1) (sym (fresh_version l n layout below)) (omega arith) in
    let front : IsFront l 1 row Cached = record {
      generation = fresh_cached l (Header generation_offset) layout (omega arith);
      blank = λ v blank. let zero = blank_zero l v blank in fresh_cached l v layout zero.0 ∙ zero.1;
    } in
    record {
      named = λ name value has. absurd (let none : None ≡ Some value = sym (get-empty name_cmp name) ∙ has in cc);
      list = subst (IsList l) (sym is) (list_lit l parties layout);
      live = subst (AreLive l 1) (sym is) (live_lit l parties layout);
      run = record { least = omega arith; fits = omega arith };
      row = acted_row l row (Store (status_address l 0) live_status) whole can;
      clock = at-set_other l row (Volatile 0 status_offset) Clock live_status (here, omega arith) tt (λ e. cc) ∙ marked-at_volatile l Clock tt (omega arith) (λ e. cc);
      versions = subst (AreKnown l 1) (sym is) known;
      free = λ n below. subst (λ (f : Facts). IsFree (f.version n) 1) (sym is) (subst (λ (v : ℕ). IsFree v 1) (sym (fresh_version l n layout below)) (inl (omega arith)));
      settled = subst (λ (f : Facts). (n : ℕ) → IsListed f n → IsSettled l f n) (sym is) (settled_lit l parties layout);
      durable = λ n below offset. ⊎_elim
          (λ stays. stays ∙ fresh_twins l n offset layout)
          (λ copied. copied)
          (closer_spot l row w.words near n offset)
          ∙ sym (ap (λ (f : Facts). f.now n offset) is);
      durable_versions = closer_versions l row w.words empty [] near 1 known
          (λ n below. subst (λ (v : ℕ). generation_of v ≤ 1) (sym (fresh_durable l (Node n version_offset) layout (below, omega arith))) (omega arith));
      front = cached_front l 1 row w.words (λ v has other. at-set_other l row (Volatile 0 status_offset) (Cached v) live_status (here, omega arith) has (λ e. cc)) front;
      durable_front = closer_front l 1 row w.words near front (record {
        generation = fresh_durable l (Header generation_offset) layout (omega arith);
        blank = λ v blank. let zero = blank_zero l v blank in fresh_durable l v layout zero.0 ∙ zero.1;
      });
      idle = idle;
      begun = begun;
    }

-- none but the first is listed
pub fresh_list : (l : Layout) → IsLayout l → (facts (fresh_world l [])).list ≡ []
fresh_list l layout = ap (λ (f : Facts). f.list) (same_lit l [] layout)
