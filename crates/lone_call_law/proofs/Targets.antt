-- The target of a walk in any lawful index in which the version word stands that the walk saw.
use Rattle.std.proofs.Common.{◌≡◌, ◌≢◌, ℕ, ◌^◌, ◌<◌, ◌≤◌, true, inl, inr, List, [], ◌∷◌, Option, Some, None, sym, ap, ◌∙◌, subst, arith, ◌+◌}
use Rattle.std.specs.Prelude.{◌↔◌, IsSome, IfSome, slice_index}
use Rattle.std.specs.List.{AllByRecursion}
use Rattle.cat_key.specs.Names.{IsName, words_of}
use Rattle.cat_key.proofs.Packing.{length-words_of, words_tell_names}
use Rattle.pm_words.specs.Offsets.{next_offset, anchor_offset}
use Rattle.data_node.specs.Spots.{Spot}
use Rattle.data_node.specs.Lists.{ListNode, three_words, key_of, anchor_in, IsMember, IsIn, IsChain, number_of}
use Rattle.call_stages.specs.Stages.{Sees}
use Rattle.data_list.specs.declared.target.Next.{Next}
use Rattle.data_list.specs.Keys.{IsNameOf, key_words}
use Rattle.data_list.specs.Walks.{LeadsOn, sighting_of}
use Rattle.data_list.specs.WalkStages.{leads_on, sight_in}
use Rattle.data_list.specs.Laws.{Ends}
use Rattle.data_list.proofs.KeyLemmas.{three}
use Rattle.data_list.proofs.WalkLaw.{anchor_is}
use Rattle.index_law.specs.Facts.{Facts, range_of, IsListed}
use Rattle.index_law.specs.Worlds.{World, facts}
use Rattle.index_law.specs.Lawful.{Lawful, Stands, SureSaw, Sure}
use Rattle.data_node.proofs.KeyLemmas.{word_fits}
use Rattle.data_node.proofs.ListLemmas.{between_target, chain_closed, all_member}
use Rattle.index_law.proofs.Rows.{spot_in-here}
use Rattle.index_law.proofs.Switch.{rise_from, inside_between, between_inside}
use Rattle.lone_call_law.specs.Targets.{LeadsTo, TargetStands}

-- three words below 2^64 are told by their number
words_told : (a b c x y z : ℕ) → b < 2 ^ 64 → c < 2 ^ 64 → y < 2 ^ 64 → z < 2 ^ 64 → three_words a b c ≡ three_words x y z → (a ≡ x) × (b ≡ y) × (c ≡ z)
words_told a b c x y z fb fc fy fz same = (omega (arith, fb, fc, fy, fz), omega (arith, fb, fc, fy, fz), omega (arith, fb, fc, fy, fz))

-- where the number of the words is a name's, they are that name's
pub name_words : (k : List ℕ) (name : List ℕ) → IsName name → slice_index k 1 < 2 ^ 64 → slice_index k 2 < 2 ^ 64 → number_of k ≡ key_of name → words_of name ≡ key_words k
unfolding key_of
name_words k name named small smaller same =
    let fits = word_fits name named.bytes in
    let told = words_told (slice_index (words_of name) 0) (slice_index (words_of name) 1) (slice_index (words_of name) 2) (slice_index k 0) (slice_index k 1) (slice_index k 2) (fits 1) (fits 2) small smaller (sym same) in
    three (words_of name) k (length-words_of name) told.0 told.1 told.2

-- and it is told as their name
tells_name : (words : List ℕ) (high : Option (List ℕ)) (name : List ℕ) → IsNameOf words high → IsName name → words_of name ≡ words → high ≡ Some name
tells_name words None name is named whole = absurd (nothing (is.some.1 (name, named, whole)))
  where
    nothing : IsSome (let none : Option (List ℕ) = None in none) → ⊥
    nothing some = cc
tells_name words (Some found) name is named whole = ap Some (words_tell_names found name is.named named (is.whole ∙ sym whole))

-- a member's anchor is a name
anchored : (now : ℕ → Spot) (here : ℕ) (list : List ListNode) → IsChain now here list → AllByRecursion (λ (m : ListNode). (name : List ℕ) × IsName name × (m.anchor ≡ key_of name)) list → (n : ℕ) → IsMember list n
    → (name : List ℕ) × IsName name × (anchor_in (now n) ≡ key_of name)
anchored now here [] chain named n among = absurd among
anchored now here (m ∷ behind) chain named n (inl e) = (named.0.0, named.0.1, ap (λ k. anchor_in (now k)) e ∙ chain.2 ∙ named.0.2)
anchored now here (m ∷ behind) chain named n (inr later) = anchored now m.node behind chain.3 named.1 n later

module _ (w : World) (lawful : Lawful w) where
  abbrev f : Facts
  f = facts w

  -- a word of a node has 64 bits
  fits : (n offset : ℕ) → n < w.layout.nodes → 0 < offset → offset < 16 → f.now n offset < 2 ^ 64
  fits n offset here some small = subst (λ x. x < 2 ^ 64) (sym (spot_in-here w.layout w.words n offset (here, omega arith) some)) (lawful.row.fits _)

  -- what was seen of the next node is so
  leads : (n : ℕ) (low : List ℕ) (next : Option Next) (high : Option (List ℕ)) → IsListed f n → IfSome next (λ to. LeadsOn w.layout to.node) → Ends next high
      → Sees (leads_on low next) (f.now n) (f.now (f.now n next_offset)) → LeadsTo f n next high
  leads n low None high listed on ends see = (see.seen.0, ends)
  leads n low (Some next) high listed on ends see =
      let to = f.now n next_offset in
      let k : List ℕ = next.anchor in
      let beyond = see.beyond on.some in
      let is : to ≡ next.node = see.seen.0 in
      let member : IsMember f.list to = chain_closed f.now 0 f.list lawful.list.chain n listed (λ none. on.some (sym is ∙ none)) in
      let here : to < w.layout.nodes = all_member (λ m. m < w.layout.nodes) f.list to lawful.list.within member in
      let name = anchored f.now 0 f.list lawful.list.chain lawful.list.named to member in
      let anchor : anchor_in (f.now to) ≡ number_of k = anchor_is (f.now to) k beyond.0.2 beyond.1.0.2 beyond.1.1.0.2 in
      let second : slice_index k 1 < 2 ^ 64 = subst (λ x. x < 2 ^ 64) beyond.1.0.2 (fits to (anchor_offset + 1) here (omega arith) (omega arith)) in
      let third : slice_index k 2 < 2 ^ 64 = subst (λ x. x < 2 ^ 64) beyond.1.1.0.2 (fits to (anchor_offset + 2) here (omega arith) (omega arith)) in (
        is,
        subst (IsIn f.list) is (inr member),
        (name.0, name.1, tells_name (key_words k) high name.0 ends name.1 (name_words k name.0 name.1 second third (sym anchor ∙ name.2)), ap (λ m. anchor_in (f.now m)) (sym is) ∙ name.2),
      )

  -- the range of a listed node, by its bounds
  ranges : (n low : ℕ) (next : Option Next) (high : Option (List ℕ)) → IsListed f n → anchor_in (f.now n) ≡ low → IfSome next (λ to. LeadsOn w.layout to.node) → LeadsTo f n next high → (name : List ℕ)
      → range_of w.layout f n name ≡ true ↔ ((low ≤ key_of name) × IfSome high (λ end. key_of name < key_of end))
  ranges n low None high listed is on to name = (
    (λ inside. let between = inside_between w.layout f lawful.list n name inside in (let least = between.low in omega arith, subst (λ (o : Option (List ℕ)). IfSome o (λ end. key_of name < key_of end)) (sym to.1) tt)),
    (λ within. between_inside w.layout f lawful.list n name listed (let least : low ≤ key_of name = within.0 in record { low = omega arith; high = λ some. absurd (some to.0) })),
  )
  ranges n low (Some next) high listed is on to name =
      let end : List ℕ = to.2.0 in
      let told : high ≡ Some end = to.2.2 in
      let anchor : anchor_in (f.now (f.now n next_offset)) ≡ key_of end = ap (λ m. anchor_in (f.now m)) to.0 ∙ to.2.3 in
      let some : f.now n next_offset ≢ 0 = λ none. on.some (sym to.0 ∙ none) in (
        (λ inside. let between = inside_between w.layout f lawful.list n name inside in
            let least = between.low in
            let most = between.high some in
            (omega arith, subst (λ (o : Option (List ℕ)). IfSome o (λ e. key_of name < key_of e)) (sym told) (let less : key_of name < key_of end = omega arith in less))),
        (λ within. between_inside w.layout f lawful.list n name listed
            (let least : low ≤ key_of name = within.0 in
            let most : key_of name < key_of end = subst (λ (o : Option (List ℕ)). IfSome o (λ e. key_of name < key_of e)) told within.1 in
            record { low = omega arith; high = λ s. omega arith })),
      )

pub target_stands : TargetStands
target_stands w i p key target lock lawful there is stage version =
    let f = facts w in
    let l = w.layout in
    let n = target.node in
    let sure : SureSaw l w.generation f n target.version lock (sight_in (sighting_of target)) = subst (Sure l w.generation f p.caller p.index p.since) stage (lawful.sure i p there) in
    let stands : Stands f n (sight_in (sighting_of target)) = sure.stands version in
    let listed : IsListed f n = stands.listed is.seen.live in
    let low : anchor_in (f.now n) ≡ number_of target.low = lowest target.low target.next (f.now n) (f.now (f.now n next_offset)) stands.sees in
    let next : LeadsTo f n target.next target.high = leads w lawful n target.low target.next target.high listed is.next is.high stands.sees in
    record {
      listed = listed;
      live = lawful.live.live n listed;
      chosen = between_target f.now 0 f.list lawful.list.chain (rise_from l f lawful.list) n (number_of key) listed (is.seen.between _ _ stands.sees);
      low = low;
      next = next;
      range = ranges w lawful n (number_of target.low) target.next target.high listed low is.next next;
    }
  where
    lowest : (low : List ℕ) (next : Option Next) (s t : Spot) → Sees (leads_on low next) s t → anchor_in s ≡ number_of low
    lowest low None s t see = anchor_is s low see.seen.1.0 see.seen.1.1.0 see.seen.1.1.1.0
    lowest low (Some next) s t see = anchor_is s low see.seen.1.0 see.seen.1.1.0 see.seen.1.1.1.0
