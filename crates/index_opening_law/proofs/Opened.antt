-- The words of a recovered image, whose volatile words tell the list, are those of an index at rest.
use Rattle.std.proofs.Common.{◌≡◌, ◌≢◌, ℕ, ◌+◌, ◌-◌, ◌<◌, ◌≤◌, ◌&&◌, ◌⊎◌, cond, List, [], inl, inr, ⊎_elim, refl, sym, ap, ◌∙◌, subst, arith}
use Rattle.std.specs.Prelude.{nat_lt}
use Rattle.std.proofs.lemmas.Bool.{cases_eq, lt-ltb}
use Rattle.pm_words.specs.Codes.{free_status, live_status, gone_status}
use Rattle.pm_words.specs.declared.layout.Layout.{Layout}
use Rattle.pm_words.specs.Locations.{Word, Location, Header, Root, Node, Line, Leaf, Cell, Cached, Durable, at, node_words}
use Rattle.cat_history.specs.Maps.{Map}
use Rattle.version_lock.specs.Versions.{generation_of, IsFree}
use Rattle.data_node.specs.Lists.{ListNode, IsIn, MakeList, Rise, StaysIn, range_in}
use Rattle.data_node.specs.Spots.{Spot, Means}
use Rattle.data_node.proofs.ListLemmas.{chain_is, members_few, member_or}
use Rattle.pm_words.specs.Offsets.{version_offset, next_offset, generation_offset}
use Rattle.call_stages.specs.Stages.{Idle}
use Rattle.index_law.specs.Facts.{version_in, spot_in, status_in, list_in, durable_spot, durable_version}
use Rattle.index_law.specs.Worlds.{Party, facts}
use Rattle.index_law.specs.Lawful.{Each, AreLive, IsList, IsSettled}
use Rattle.index_law.specs.Laws.{IsAtRest}
use Rattle.index_law.specs.Twins.{IsBlank}
use Rattle.index_law.proofs.Rows.{status_in-here}
use Rattle.index_law.proofs.Starts.{listed_within}
use Rattle.index_law.proofs.Switch.{leads_on}
use Rattle.image_recovery_law.specs.Columns.{Columns}
use Rattle.image_recovery_law.specs.Rest.{IsUntaken}
use Rattle.image_recovery_law.specs.Rows.{columns_in, word_if, spare_count, spare_word}
use Rattle.image_recovery_law.proofs.RowColumns.{word_if-here, spare_low, spare_high}
use Rattle.index_opening_law.specs.Openings.{IsOpening, OpeningIsAtRest, OpeningHasList, OpeningIsUnlocked, opened_world}

-- the columns of a row are what an index reads off it
pub spot_is : (l : Layout) (words : List ℕ) → (columns_in l words Cached).spot ≡ spot_in l words
unfolding word_if spot_in
spot_is l words = λ k n o. (λ (x : ℕ). x) (cond (nat_lt n l.nodes && (nat_lt 0 o && nat_lt o (node_words l))) (at l words (Cached (Node n o))) 0)

safe_spot_is : (l : Layout) (words : List ℕ) → (columns_in l words Durable).spot ≡ durable_spot l words
unfolding word_if durable_spot
safe_spot_is l words = λ k n o. (λ (x : ℕ). x) (cond (nat_lt n l.nodes && (nat_lt 0 o && nat_lt o (node_words l))) (at l words (Durable (Node n o))) 0)

pub version_is : (l : Layout) (words : List ℕ) → (columns_in l words Cached).version ≡ version_in l words
unfolding word_if version_in
version_is l words = λ k n. (λ (x : ℕ). x) (cond (nat_lt n l.nodes) (at l words (Cached (Node n version_offset))) 0)

-- a word with no use is 0 where the columns say so
unused : (l : Layout) (words : List ℕ) (twin : Word → Location) (k : ℕ) → k < spare_count → (columns_in l words twin).spare k ≡ 0 → at l words (twin (spare_word k)) ≡ 0
unused l words twin k small none = sym (word_if-here (nat_lt k spare_count) (at l words (twin (spare_word k))) (lt-ltb k spare_count small)) ∙ none

front_blank : (l : Layout) (words : List ℕ) (twin : Word → Location) → ((k : ℕ) → (columns_in l words twin).spare k ≡ 0) → (w : Word) → IsBlank w → at l words (twin w) ≡ 0
front_blank l words twin none (Header o) is =
    let k = o - 6 in
    let same : spare_word k ≡ Header o = spare_low k (omega arith) ∙ ap Header (let all : 6 + k ≡ o = omega arith in all) in
    subst (λ w. at l words (twin w) ≡ 0) same (unused l words twin k (omega arith) (none k))
front_blank l words twin none (Root o) is =
    let k = o + 1 in
    let same : spare_word k ≡ Root o = spare_high k (omega (arith, is.0)) ∙ ap Root (let all : k - 1 ≡ o = omega arith in all) in
    subst (λ w. at l words (twin w) ≡ 0) same (unused l words twin k (omega (arith, is.1)) (none k))
front_blank l words twin none (Node n o) is = absurd is
front_blank l words twin none (Line c j o) is = absurd is
front_blank l words twin none (Leaf k o) is = absurd is
front_blank l words twin none (Cell kind k o) is = absurd is

module _ (l : Layout) (list : List ListNode) (o : Columns) (words : List ℕ) (m : Map) (is : IsOpening l list o words m) where
  abbrev now : Columns
  now = columns_in l words Cached

  abbrev safe : Columns
  safe = columns_in l words Durable

  pub makes : MakeList l.nodes (spot_in l words) list
  makes = subst (λ (s : ℕ → Spot). MakeList l.nodes s list) (spot_is l words) is.rests.sound.nodes.makes

  pub list_is : list_in l words ≡ list
  list_is = chain_is (spot_in l words) l.nodes 0 list makes.chain (let few = members_few (spot_in l words) 0 l.nodes list makes.chain (subst (λ a. Rise a list) (sym makes.lowest) makes.rise) makes.within in omega arith)

  pub made : IsList l (facts (opened_world l words [] m))
  made = subst (MakeList l.nodes (spot_in l words)) (sym list_is) makes

  -- a node of the list is one of it
  pub listed : (n : ℕ) → IsIn (list_in l words) n → IsIn list n
  listed n = subst (λ (ms : List ListNode). IsIn ms n) list_is

  pub lists : (n : ℕ) → IsIn list n → IsIn (list_in l words) n
  lists n = subst (λ (ms : List ListNode). IsIn ms n) (sym list_is)

  pub in_or : (n : ℕ) → IsIn list n ⊎ (IsIn list n → ⊥)
  in_or n = ⊎_elim (λ (zero_is : n ≡ 0). inl (inl zero_is)) (λ (other : n ≢ 0). ⊎_elim (λ among. inl (inr among)) (λ none. inr (λ has. ⊎_elim other none has)) (member_or list n)) (cases_eq n 0)

  pub status_lit : (n : ℕ) → n < l.nodes → IsIn list n → status_in l words n ≡ live_status
  status_lit n here has = status_in-here l words n here ∙ is.tells.live n has

  pub status_dark : (n : ℕ) → n < l.nodes → (IsIn list n → ⊥) → status_in l words n ≡ free_status
  status_dark n here lacks = status_in-here l words n here ∙ is.tells.free n here lacks

  pub status_few : (n : ℕ) → n < l.nodes → status_in l words n ≤ live_status
  status_few n here = ⊎_elim (λ has. let live = status_lit n here has in omega arith) (λ lacks. let free = status_dark n here lacks in omega arith) (in_or n)

  -- a LIVE node is listed
  bright : (n : ℕ) → n < l.nodes → status_in l words n ≡ live_status → IsIn (list_in l words) n
  bright n here live = ⊎_elim (λ has. lists n has) (λ lacks. absurd (let dark = status_dark n here lacks in let no : 0 ≡ 1 = sym dark ∙ live in omega arith)) (in_or n)

  pub within : (n : ℕ) → IsIn (list_in l words) n → n < l.nodes
  within n has = listed_within l (facts (opened_world l words [] m)) made is.row.layout n has

  next_within : (n : ℕ) → IsIn (list_in l words) n → spot_in l words n next_offset < l.nodes
  next_within n has = ⊎_elim
      (λ (last : spot_in l words n next_offset ≡ 0). let some = is.rests.sound.nodes.some in omega arith)
      (λ (more : spot_in l words n next_offset ≢ 0). within (spot_in l words n next_offset) (leads_on l (facts (opened_world l words [] m)) made n has more))
      (cases_eq (spot_in l words n next_offset) 0)

  live : AreLive l (at l words (Cached (Header generation_offset))) (facts (opened_world l words [] m))
  live = record {
    live = λ n has. status_lit n (within n has) (listed n has);
    listed = λ n here lit free. bright n here lit;
    leads = λ n here lit. next_within n (bright n here lit);
    three = λ n here. let few = status_few n here in omega arith;
  }

  generation_is : now.generation ≡ at l words (Cached (Header generation_offset))
  generation_is = refl

  -- both twins of each column are the same
  spots_even : (n k : ℕ) → durable_spot l words n k ≡ spot_in l words n k
  spots_even n k =
      (λ j. sym (safe_spot_is l words) j n k)
      ∙ (λ j. (is.rests.durable j).spot n k)
      ∙ (λ j. spot_is l words j n k)

  pub opening_at_rest : (parties : List Party) → Each (λ p. p.stage ≡ Idle) parties → Each (λ p. p.since ≤ 0) parties → IsAtRest (opened_world l words parties m)
  opening_at_rest parties idle begun = record {
    named = is.keeps.names;
    list = made;
    live = live;
    run = is.rests.sound.nodes.generation;
    row = is.row;
    clock = is.tells.clock;
    versions = λ n here. subst (λ (v : ℕ → ℕ). generation_of (v n) ≤ at l words (Cached (Header generation_offset))) (version_is l words) (is.rests.sound.nodes.versions n here);
    free = λ n here. subst (λ (v : ℕ → ℕ). IsFree (v n) (at l words (Cached (Header generation_offset)))) (version_is l words) (is.rests.untaken n here).free;
    settled = λ n has. settled n (listed n has);
    durable = λ n here k. spots_even n k;
    durable_versions = λ n here. safe_version n here;
    front = record { generation = refl; blank = front_blank l words Cached is.rests.sound.nodes.spare };
    durable_front = record {
      generation = λ j. (is.rests.durable j).generation;
      blank = front_blank l words Durable (λ k. (λ j. (is.rests.durable j).spare k) ∙ is.rests.sound.nodes.spare k);
    };
    idle = idle;
    begun = begun;
  }
    where
      safe_version : (n : ℕ) → n < l.nodes → generation_of (durable_version l words n) ≤ at l words (Cached (Header generation_offset))
      safe_version n here =
          let same : durable_version l words n ≡ now.version n =
          sym (word_if-here (nat_lt n l.nodes) (at l words (Durable (Node n version_offset))) (lt-ltb n l.nodes here)) ∙ (λ j. (is.rests.durable j).version n) in
          subst (λ (v : ℕ). generation_of v ≤ at l words (Cached (Header generation_offset))) (sym same) (is.rests.sound.nodes.versions n here)

      settled : (n : ℕ) → IsIn list n → IsSettled l (facts (opened_world l words parties m)) n
      settled n has = record {
        means = subst (λ (ms : List ListNode). Means l.slots (range_in ms n) (spot_in l words n) m) (sym list_is)
            (subst (λ (s : ℕ → Spot). Means l.slots (range_in list n) (s n) m) (spot_is l words) (is.keeps.means n has));
        stays = subst (λ (ms : List ListNode). StaysIn l.slots (range_in ms n) (spot_in l words n)) (sym list_is)
            (subst (λ (s : ℕ → Spot). StaysIn l.slots (range_in list n) (s n)) (spot_is l words) (is.rests.stays n has));
      }

pub opening_is_at_rest : OpeningIsAtRest
opening_is_at_rest l list o words m parties is idle begun = opening_at_rest l list o words m is parties idle begun

pub opening_has_list : OpeningHasList
opening_has_list l list o words m is = list_is l list o words m is

pub opening_is_unlocked : OpeningIsUnlocked
opening_is_unlocked l list o words m parties is = record {
  untaken = λ n here. subst (λ (v : ℕ → ℕ). IsUntaken (v n) (at l words (Cached (Header generation_offset)))) (version_is l words) (is.rests.untaken n here);
  not_gone = λ n here gone. let few = status_few l list o words m is n here in absurd (let two : status_in l words n ≡ gone_status = gone in omega arith);
}
