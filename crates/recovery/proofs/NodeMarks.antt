-- How the volatile words of a row come to tell its list, node by node.
use Rattle.std.proofs.Common.{◌≡◌, ◌≢◌, ℕ, suc, ◌+◌, ◌^◌, ◌<◌, ◌≤◌, ◌⊎◌, List, [], ◌∷◌, length, length-set, slice_set}
use Rattle.std.proofs.Common.{inl, inr, ⊎_elim, refl, sym, ap, ◌∙◌, subst, arith}
use Rattle.std.specs.List.{AllByRecursion}
use Rattle.std.proofs.lemmas.Bool.{cases_eq}
use Rattle.pm_words.specs.Codes.{live_status}
use Rattle.pm_words.specs.declared.layout.Layout.{Layout}
use Rattle.pm_words.specs.Locations.{Location, Volatile, Cached, Node, Clock, Updater, HasLocation, address_of}
use Rattle.pm_words.specs.Locations.{row_words, at}
use Rattle.pm_words.specs.declared.action.Action.TheVariants.{Store}
use Rattle.pm_words.specs.Rows.{IsRow, IsOutsideHeader, acted}
use Rattle.pm_words.proofs.Apart.{addresses_within, at-set_same, at-set_other}
use Rattle.pm_words.proofs.Kept.{acted_row, outside_header}
use Rattle.data_node.specs.Lists.{ListNode, IsChain, IsIn, IsMember, Rise, anchor_in}
use Rattle.data_node.proofs.ListLemmas.{all_member, members_few, not_behind, rise_at}
use Rattle.pm_words.specs.Offsets.{next_offset, status_offset, prev_offset, stamp_offset, permutation_version_offset}
use Rattle.index_law.specs.Facts.{list_in, spot_in}
use Rattle.index_law.proofs.Rows.{spot_in-alike}
use Rattle.index_core.specs.index_opening_law.specs.Openings.{LeadBack, TellsList}
use Rattle.recovery.specs.Tellings.{IsNodeMark, IsUntold, KeepsBeside, told_words}

-- what one node's telling changes
module _ (l : Layout) (words : List ℕ) (node prev : ℕ) (whole : length words ≡ row_words l) (here : node < l.nodes) where
  abbrev first : List ℕ
  first = slice_set words (address_of l (Volatile node status_offset)) live_status

  abbrev after : List ℕ
  after = told_words l words node prev

  tell_other : (p : Location) → HasLocation l p → p ≢ Volatile node status_offset → p ≢ Volatile node prev_offset → at l after p ≡ at l words p
  tell_other p has no_status no_prev =
      at-set_other l first (Volatile node prev_offset) p prev (here, omega arith) has no_prev ∙ at-set_other l words (Volatile node status_offset) p live_status (here, omega arith) has no_status

  pub tell_beside : (p : Location) → HasLocation l p → (IsNodeMark p → ⊥) → at l after p ≡ at l words p
  tell_beside p has beside = tell_other p has
      (λ e. beside (subst IsNodeMark (sym e) (inl (inl refl))))
      (λ e. beside (subst IsNodeMark (sym e) (inl (inr refl))))

  pub tell_status : at l after (Volatile node status_offset) ≡ live_status
  tell_status =
      at-set_other l first (Volatile node prev_offset) (Volatile node status_offset) prev (here, omega arith) (here, omega arith) (λ e. let no : 0 ≡ 1 = ap offset_of e in omega arith)
      ∙ at-set_same l words (Volatile node status_offset) live_status whole (here, omega arith)
    where
      offset_of : Location → ℕ
      offset_of (Volatile n o) = o
      offset_of _ = 0

  pub tell_prev : at l after (Volatile node prev_offset) ≡ prev
  tell_prev = at-set_same l first (Volatile node prev_offset) prev (length-set words (address_of l (Volatile node status_offset)) live_status ∙ whole) (here, omega arith)

  pub tell_else : (n o : ℕ) → n ≢ node → n < l.nodes → o < 2 → at l after (Volatile n o) ≡ at l words (Volatile n o)
  tell_else n o other within low = tell_other (Volatile n o) (within, omega arith) (λ e. other (ap number_of e)) (λ e. other (ap number_of e))
    where
      number_of : Location → ℕ
      number_of (Volatile m offset) = m
      number_of _ = 0

-- it is a row still
tell_row : (l : Layout) (words : List ℕ) (node prev : ℕ) → IsRow l words → node < l.nodes → prev < 2 ^ 64 → IsRow l (told_words l words node prev)
tell_row l words node prev row here small =
    let marked : (o : ℕ) → o < 16 → HasLocation l (Volatile node o) = λ o low. (here, low) in
    let outside : (o : ℕ) → o < 16 → IsOutsideHeader l (address_of l (Volatile node o)) = λ o low. outside_header l (Volatile node o) (marked o low) (λ k lt. (λ e. cc, λ e. cc)) in
    acted_row l (acted l words (Store (address_of l (Volatile node status_offset)) live_status)) (Store (address_of l (Volatile node prev_offset)) prev)
    (acted_row l words (Store (address_of l (Volatile node status_offset)) live_status) row ((addresses_within l (Volatile node status_offset) (marked 0 (omega arith)), outside 0 (omega arith)), omega arith))
    ((addresses_within l (Volatile node prev_offset) (marked prev_offset (omega arith)), outside prev_offset (omega arith)), small)

-- Of this list of the nodes behind node 0, those up to this node are told, and these are left behind it.
pub record IsToldTo (l : Layout) (list : List ListNode) (words now : List ℕ) (here : ℕ) (left : List ListNode) : Type 0 where
  pub row : IsRow l now
  pub within : here < l.nodes
  pub chain : IsChain (spot_in l words) here left
  pub rise : Rise (anchor_in (spot_in l words here)) left
  pub few : AllByRecursion (λ (m : ListNode). m.node < l.nodes) left
  pub inside : (n : ℕ) → IsMember left n → IsMember list n
  pub beside : KeepsBeside l words now
  pub live : (n : ℕ) → IsIn list n → (IsMember left n → ⊥) → at l now (Volatile n status_offset) ≡ live_status
  pub dark : (n : ℕ) → n < l.nodes → (IsIn list n → IsMember left n) → at l now (Volatile n status_offset) ≡ 0
  pub bare : (n : ℕ) → n < l.nodes → (IsMember list n → IsMember left n) → at l now (Volatile n prev_offset) ≡ 0
  pub back : (prev : ℕ → ℕ) → ((n : ℕ) → n < l.nodes → (IsMember left n → ⊥) → prev n ≡ at l now (Volatile n prev_offset)) → LeadBack prev here left → LeadBack prev 0 list

-- at a position there are so many left
pub record IsTelling (l : Layout) (words now : List ℕ) (here position : ℕ) : Type 0 where
  pub left : List ListNode
  pub told : IsToldTo l (list_in l words) words now here left
  pub size : position + length left ≡ length (list_in l words)

module _ (l : Layout) (words : List ℕ) (untold : IsUntold l words) where
  abbrev list : List ListNode
  list = list_in l words

  -- node 0 is told first
  pub begins_telling : IsRow l words → IsTelling l words (told_words l words 0 0) 0 0
  begins_telling row = record {
    left = list;
    told = record {
      row = tell_row l words 0 0 row untold.some (omega arith);
      within = untold.some;
      chain = untold.makes.chain;
      rise = subst (λ a. Rise a list) (sym untold.makes.lowest) untold.makes.rise;
      few = untold.makes.within;
      inside = λ n among. among;
      beside = tell_beside l words 0 0 row.whole untold.some;
      live = λ n listed none. ⊎_elim
          (λ (e : n ≡ 0). subst (λ k. at l (told_words l words 0 0) (Volatile k status_offset) ≡ live_status) (sym e) (tell_status l words 0 0 row.whole untold.some))
          (λ among. absurd (none among))
          listed;
      dark = λ n here left. ⊎_elim
          (λ (e : n ≡ 0). absurd (first_apart (subst (IsMember list) e (left (inl e)))))
          (λ (other : n ≢ 0). tell_else l words 0 0 row.whole untold.some n 0 other here (omega arith) ∙ untold.zero (Volatile n status_offset) (here, omega arith) (omega arith) refl)
          (cases_eq n 0);
      bare = λ n here left. ⊎_elim
          (λ (e : n ≡ 0). subst (λ k. at l (told_words l words 0 0) (Volatile k prev_offset) ≡ 0) (sym e) (tell_prev l words 0 0 row.whole untold.some))
          (λ (other : n ≢ 0). tell_else l words 0 0 row.whole untold.some n prev_offset other here (omega arith) ∙ untold.zero (Volatile n prev_offset) (here, omega arith) (omega arith) refl)
          (cases_eq n 0);
      back = λ prev same leads. leads;
    };
    size = omega arith;
  }
    where
      first_apart : IsMember list 0 → ⊥
      first_apart = not_behind (spot_in l words) 0 list untold.makes.chain (subst (λ a. Rise a list) (sym untold.makes.lowest) untold.makes.rise)

  -- the nodes lead where they led
  pub next_kept : (now : List ℕ) (here position : ℕ) → IsTelling l words now here position → spot_in l now here next_offset ≡ spot_in l words here next_offset
  next_kept now here position is = spot_in-alike l words now here next_offset (λ has behind. is.told.beside (Cached (Node here next_offset)) has (λ mark. mark))

  listed_here : (n : ℕ) → IsIn list n → n < l.nodes
  listed_here n listed = ⊎_elim (λ (e : n ≡ 0). let some = untold.some in omega arith) (λ among. all_member (λ k. k < l.nodes) list n untold.makes.within among) listed

  -- one node more
  pub goes_telling : (now : List ℕ) (here position next : ℕ) → IsTelling l words now here position → next ≡ spot_in l now here next_offset → next ≢ 0
      → (next < l.nodes) × IsTelling l words (told_words l now next here) next (suc position)
  goes_telling now here position next is leads more = at_left is.left is.told is.size
    where
      there : next ≡ spot_in l words here next_offset
      there = leads ∙ next_kept now here position is

      at_left : (left : List ListNode) → IsToldTo l list words now here left → position + length left ≡ length list → (next < l.nodes) × IsTelling l words (told_words l now next here) next (suc position)
      at_left [] told size = absurd (more (there ∙ told.chain))
      at_left (m ∷ behind) told size =
          let same : m.node ≡ next = sym told.chain.0 ∙ sym there in
          let within : next < l.nodes = subst (λ k. k < l.nodes) same told.few.0 in
          let rises = rise_at (spot_in l words) m behind told.chain.2 told.rise.1 in
          let apart : IsMember behind next → ⊥ = λ among. not_behind (spot_in l words) m.node behind told.chain.3 rises (subst (IsMember behind) (sym same) among) in (
            within,
            record {
              left = behind;
              told = record {
                row = tell_row l now next here told.row within (let low = told.within in let most = told.row.layout.nodes.1 in omega arith);
                within = within;
                chain = subst (λ k. IsChain (spot_in l words) k behind) same told.chain.3;
                rise = subst (λ k. Rise (anchor_in (spot_in l words k)) behind) same rises;
                few = told.few.1;
                inside = λ n among. told.inside n (inr among);
                beside = λ p has unmarked. tell_beside l now next here told.row.whole within p has unmarked ∙ told.beside p has unmarked;
                live = λ n listed none. ⊎_elim
                    (λ (e : n ≡ next). subst (λ k. at l (told_words l now next here) (Volatile k status_offset) ≡ live_status) (sym e) (tell_status l now next here told.row.whole within))
                    (λ (other : n ≢ next). tell_else l now next here told.row.whole within n 0 other (listed_here n listed) (omega arith)
                    ∙ told.live n listed (λ among. ⊎_elim (λ e. other (e ∙ same)) none among))
                    (cases_eq n next);
                dark = λ n here_n left. ⊎_elim
                    (λ (e : n ≡ next). absurd (apart (subst (IsMember behind) e (left (inr (told.inside n (inl (e ∙ sym same))))))))
                    (λ (other : n ≢ next). tell_else l now next here told.row.whole within n 0 other here_n (omega arith) ∙ told.dark n here_n (λ listed. inr (left listed)))
                    (cases_eq n next);
                bare = λ n here_n left. ⊎_elim
                    (λ (e : n ≡ next). absurd (apart (subst (IsMember behind) e (left (told.inside n (inl (e ∙ sym same)))))))
                    (λ (other : n ≢ next). tell_else l now next here told.row.whole within n prev_offset other here_n (omega arith) ∙ told.bare n here_n (λ listed. inr (left listed)))
                    (cases_eq n next);
                back = λ prev alike leads_back. told.back prev
                    (λ n here_n none. alike n here_n (λ among. none (inr among)) ∙ tell_else l now next here told.row.whole within n prev_offset (λ e. none (inl (e ∙ sym same))) here_n (omega arith))
                    (ap prev same ∙ alike next within apart ∙ tell_prev l now next here told.row.whole within, subst (λ k. LeadBack prev k behind) (sym same) leads_back);
              };
              size = omega arith;
            },
          )

  tells_all : (now : List ℕ) (here : ℕ) (left : List ListNode) → left ≡ [] → IsToldTo l list words now here left → TellsList l list now
  tells_all now here left none told = record {
    live = λ n listed. told.live n listed (no_member n);
    free = λ n here_n unlisted. told.dark n here_n (λ listed. absurd (unlisted listed));
    back = told.back (λ n. at l now (Volatile n prev_offset)) (λ n here_n none. refl) (subst (LeadBack (λ n. at l now (Volatile n prev_offset)) here) (sym none) tt);
    none = λ n here_n unlisted. told.bare n here_n (λ listed. absurd (unlisted listed));
    stamps = λ n here_n. told.beside (Volatile n stamp_offset) (here_n, omega arith) (other_word stamp_offset refl) ∙ untold.zero (Volatile n stamp_offset) (here_n, omega arith) (omega arith) refl;
    clock = told.beside Clock tt (λ mark. mark) ∙ untold.zero Clock tt (omega arith) refl;
    updater = told.beside Updater tt (λ mark. mark) ∙ untold.zero Updater tt (omega arith) refl;
  }
    where
      no_member : (n : ℕ) → IsMember left n → ⊥
      no_member n among = subst (λ (ms : List ListNode). IsMember ms n) none among

      other_word : (o : ℕ) → o ≡ stamp_offset → ((o ≡ status_offset) ⊎ (o ≡ prev_offset)) ⊎ (o ≡ permutation_version_offset) → ⊥
      other_word o two (inl (inl first)) = omega arith
      other_word o two (inl (inr second)) = omega arith
      other_word o two (inr three) = omega arith

  -- the last node leads to none
  pub ends_telling : (now : List ℕ) (here position : ℕ) → IsTelling l words now here position → spot_in l now here next_offset ≡ 0 → TellsList l list now × KeepsBeside l words now × IsRow l now
  ends_telling now here position is last =
      let none = nothing_left is.left is.told.chain (sym (next_kept now here position is) ∙ last) in
      (tells_all now here is.left none is.told, is.told.beside, is.told.row)
    where
      nothing_left : (left : List ListNode) → IsChain (spot_in l words) here left → spot_in l words here next_offset ≡ 0 → left ≡ []
      nothing_left [] chain last = refl
      nothing_left (m ∷ behind) chain last = absurd (chain.1 (sym chain.0 ∙ last))

  -- and it comes before as many positions as there are nodes
  pub past_telling : (now : List ℕ) (here position : ℕ) → IsTelling l words now here position → l.nodes ≤ position → TellsList l list now × KeepsBeside l words now × IsRow l now
  past_telling now here position is past =
      let few = members_few (spot_in l words) 0 l.nodes list untold.makes.chain (subst (λ a. Rise a list) (sym untold.makes.lowest) untold.makes.rise) untold.makes.within in
      let size = is.size in
      let none = nothing_there is.left (omega arith) in
      (tells_all now here is.left none is.told, is.told.beside, is.told.row)
    where
      nothing_there : (left : List ListNode) → length left ≡ 0 → left ≡ []
      nothing_there [] size = refl
      nothing_there (m ∷ behind) size = absurd (omega (arith, size))
