-- The member in which a name belongs, by the anchors.
use Rattle.std.proofs.Common.{◌≡◌, ℕ, Bool, true, false, not, ◌&&◌, is_some, ⊎_elim, Option, Some, None, List, [], ◌∷◌, ◌++◌, slice_get, unwrap_or, refl, sym, ap, subst, ◌∙◌, append-nil}
use Rattle.std.proofs.lemmas.List.Elements.{filter_agree}
use Rattle.std.specs.FinMap.{keys, insert, remove}
use Rattle.std.specs.List.{filter, last_or, flat_map, AllByRecursion}
use Rattle.cat_history.specs.Maps.{Map, at}
use Rattle.shapes.specs.Anchors.{below, AnchorsRise, Anchors, AreAnchors, is_under, is_between, names_between, up_to, past, target_of, next_of, names_at}
use Rattle.shapes.specs.Members.{Member, is_among, IsTargetMember, members}
use Rattle.shapes.proofs.Orders.{same, true_or_false, no_true, clash, upto-chain, not_back, below-chain, empty_first, same-is}
use Rattle.shapes.proofs.NameLists.{all_by, all_first, all_second, filter-keeps, filter-drops, filter-all, filter-none, filter-passes, filter-twice, cut, among-filter}
use Rattle.shapes.proofs.Keys.{rise-keys, among-keys, put-outside, del-between}

-- The anchors, parted at the target of a name.
pub record Parted (anchors : Anchors) (name : List ℕ) : Type 0 where
  pub before : Anchors
  pub low : List ℕ
  pub after : Anchors
  pub is : anchors ≡ before ++ low ∷ after
  pub at_most : below name low ≡ false
  pub above : AllByRecursion (λ anchor. below name anchor ≡ true) after
  pub up : up_to anchors name ≡ before ++ low ∷ []
  pub past_is : past anchors name ≡ after

part-from : (a : List ℕ) (later : Anchors) (name : List ℕ) → AnchorsRise (a ∷ later) → below name a ≡ false → Parted (a ∷ later) name
part-from a [] name rise low =
    record {
      before = [];
      low = a;
      after = [];
      is = refl;
      at_most = low;
      above = tt;
      up = filter-keeps (λ anchor. not (below name anchor)) a [] (ap not low);
      past_is = filter-drops (λ anchor. below name anchor) a [] low;
    }
part-from a (b ∷ bs) name rise low =
    ⊎_elim
    (λ (high : below name b ≡ true).
    let above : AllByRecursion (λ anchor. below name anchor ≡ true) (b ∷ bs) =
    (high, all_by (λ c. below b c ≡ true) (λ c. below name c ≡ true) (λ c more. below-chain name b c high more) bs rise.1.0) in
    record {
      before = [];
      low = a;
      after = b ∷ bs;
      is = refl;
      at_most = low;
      above = above;
      up = filter-keeps (λ anchor. not (below name anchor)) a (b ∷ bs) (ap not low)
          ∙ ap (λ later. a ∷ later) (filter-none (λ anchor. not (below name anchor)) (b ∷ bs) (all_by (λ c. below name c ≡ true) (λ c. not (below name c) ≡ false) (λ c more. ap not more) (b ∷ bs) above));
      past_is = filter-drops (λ anchor. below name anchor) a (b ∷ bs) low ∙ filter-all (λ anchor. below name anchor) (b ∷ bs) above;
    })
    (λ (later : below name b ≡ false).
    let rest = part-from b bs name rise.1 later in
    record {
      before = a ∷ rest.before;
      low = rest.low;
      after = rest.after;
      is = ap (λ later. a ∷ later) rest.is;
      at_most = rest.at_most;
      above = rest.above;
      up = filter-keeps (λ anchor. not (below name anchor)) a (b ∷ bs) (ap not low) ∙ ap (λ later. a ∷ later) rest.up;
      past_is = filter-drops (λ anchor. below name anchor) a (b ∷ bs) low ∙ rest.past_is;
    })
    (true_or_false (below name b))

some-is : (a b : List ℕ) → Some a ≡ Some b → a ≡ b
some-is a b e = ap (λ o. unwrap_or o a) e

pub part : (anchors : Anchors) (name : List ℕ) → AreAnchors anchors → Parted anchors name
part [] name are = absurd (let e = are.first in cc)
part (a ∷ later) name are =
    part-from a later name are.rise (subst (λ b. below name b ≡ false) (sym (some-is a [] are.first)) (empty_first name))

last-is : (o : Option (List ℕ)) (before : Anchors) (low : List ℕ) → last_or o (before ++ low ∷ []) ≡ Some low
last-is o [] low = refl
last-is o (b ∷ bs) low = last-is (Some b) bs low

pub target-is : (anchors : Anchors) (name : List ℕ) (p : Parted anchors name) → target_of anchors name ≡ p.low
target-is anchors name p = ap (λ later. unwrap_or (last_or None later) []) p.up ∙ ap (λ o. unwrap_or o []) (last-is None p.before p.low)

pub next-is : (anchors : Anchors) (name : List ℕ) (p : Parted anchors name) → next_of anchors name ≡ slice_get p.after 0
next-is anchors name p = ap (λ later. slice_get later 0) p.past_is

pub names_at-is : (m : Map) (anchors : Anchors) (name : List ℕ) (p : Parted anchors name) → names_at m anchors name ≡ names_between m p.low (slice_get p.after 0)
names_at-is m anchors name p =
    ap (λ low. names_between m low (next_of anchors name)) (target-is anchors name p) ∙ ap (names_between m p.low) (next-is anchors name p)

-- what rises, in two parts
pub rise-first : (xs ys : List (List ℕ)) → AnchorsRise (xs ++ ys) → AnchorsRise xs
rise-first [] ys rise = tt
rise-first (x ∷ xs) ys rise = (all_first (λ y. below x y ≡ true) xs ys rise.0, rise-first xs ys rise.1)

pub rise-second : (xs ys : List (List ℕ)) → AnchorsRise (xs ++ ys) → AnchorsRise ys
rise-second [] ys rise = rise
rise-second (x ∷ xs) ys rise = rise-second xs ys rise.1

-- those before one are below it
pub before-low : (xs : List (List ℕ)) (low : List ℕ) (ys : List (List ℕ)) → AnchorsRise (xs ++ low ∷ ys) → AllByRecursion (λ x. below x low ≡ true) xs
before-low [] low ys rise = tt
before-low (x ∷ xs) low ys rise = ((all_second (λ y. below x y ≡ true) xs (low ∷ ys) rise.0).0, before-low xs low ys rise.1)

-- ---- members in three parts

-- the first of these, or else that
abbrev first_or : Anchors → List ℕ → List ℕ
first_or [] next = next
first_or (a ∷ later) next = a

-- the members of the anchors before one
abbrev pub members_before : Map → Anchors → List ℕ → List Member
members_before m [] next = []
members_before m (a ∷ later) next = record { anchor = a; names = names_between m a (Some (first_or later next)) } ∷ members_before m later next

-- the member from one text to another
abbrev pub member_of : Map → List ℕ → Option (List ℕ) → Member
member_of m low high = record { anchor = low; names = names_between m low high }

first-is : (before : Anchors) (low : List ℕ) (after : Anchors) → slice_get (before ++ low ∷ after) 0 ≡ Some (first_or before low)
first-is [] low after = refl
first-is (a ∷ later) low after = refl

pub members-parts : (m : Map) (before : Anchors) (low : List ℕ) (after : Anchors) →
    members m (before ++ low ∷ after) ≡ members_before m before low ++ member_of m low (slice_get after 0) ∷ members m after
members-parts m [] low after = refl
members-parts m (a ∷ later) low after =
    ap (λ o. member_of m a o ∷ members m (later ++ low ∷ after)) (first-is later low after)
    ∙ ap (λ rest. member_of m a (Some (first_or later low)) ∷ rest) (members-parts m later low after)

-- the other map has the same names wherever this one isn't asked for
abbrev pub Untouched : List ℕ → Map → Map → Type 0
Untouched name m m' = (low : List ℕ) (high : Option (List ℕ)) → is_between low high name ≡ false → names_between m' low high ≡ names_between m low high

pub and_false : (b : Bool) → (b && false) ≡ false
and_false true = refl
and_false false = refl

module _ (name : List ℕ) (m m' : Map) (untouched : Untouched name m m') where
  pub before-same : (before : Anchors) (low : List ℕ) → AllByRecursion (λ a. below a low ≡ true) before → below name low ≡ false →
      members_before m' before low ≡ members_before m before low
  before-same [] low all at_most = refl
  before-same (a ∷ later) low all at_most =
      ap (λ names. record { anchor = a; names = names } ∷ members_before m' later low)
      (untouched a (Some (first_or later low)) (ap (λ b. not (below name a) && b) (not_under later all.1) ∙ and_false (not (below name a))))
      ∙ ap (λ rest. member_of m a (Some (first_or later low)) ∷ rest) (before-same later low all.1 at_most)
    where
      not_under : (later : Anchors) → AllByRecursion (λ a. below a low ≡ true) later → below name (first_or later low) ≡ false
      not_under [] all = at_most
      not_under (b ∷ bs) all = upto-chain b low name (not_back b low all.0) at_most

  pub after-same : (after : Anchors) → AllByRecursion (λ a. below name a ≡ true) after → members m' after ≡ members m after
  after-same [] all = refl
  after-same (a ∷ later) all =
      ap (λ names. record { anchor = a; names = names } ∷ members m' later) (untouched a (slice_get later 0) (ap (λ b. not b && is_under (slice_get later 0) name) all.0))
      ∙ ap (λ rest. member_of m a (slice_get later 0) ∷ rest) (after-same later all.1)

pub put-untouched : (m : Map) (name : List ℕ) (value : ℕ) → Untouched name m (insert m name value)
put-untouched m name value low high outside = put-outside m low high name value outside

pub del-untouched : (m : Map) (name : List ℕ) → Untouched name m (remove m name)
del-untouched m name low high outside =
    del-between m low high name
    ∙ filter-all (λ y. not (same name y)) (names_between m low high)
    (all_by (λ y. is_between low high y ≡ true) (λ y. not (same name y) ≡ true)
    (λ y is. ap not (no_true (same name y) (λ here. clash is (ap (is_between low high) (sym (same-is name y here)) ∙ outside))))
    (names_between m low high) (filter-passes (is_between low high) (keys m)))

-- ---- the target's member

pub is-inside : (low name : List ℕ) (after : Anchors) → below name low ≡ false → AllByRecursion (λ a. below name a ≡ true) after → is_between low (slice_get after 0) name ≡ true
is-inside low name [] at_most above = ap (λ b. not b && true) at_most
is-inside low name (a ∷ later) at_most above = ap (λ b. not b && below name a) at_most ∙ above.0

pub members-above : (m : Map) (name : List ℕ) (after : Anchors) → AllByRecursion (λ a. below name a ≡ true) after →
    AllByRecursion (λ (member : Member). below name member.anchor ≡ true) (members m after)
members-above m name [] above = tt
members-above m name (a ∷ later) above = (above.0, members-above m name later above.1)

pub is-target : (m : Map) (anchors : Anchors) (name : List ℕ) (p : Parted anchors name) →
    IsTargetMember name (members m anchors) (members_before m p.before p.low) (member_of m p.low (slice_get p.after 0)) (members m p.after)
is-target m anchors name p =
    record {
      place = ap (members m) p.is ∙ members-parts m p.before p.low p.after;
      at_most = p.at_most;
      last = members-above m name p.after p.above;
    }

pub has-name : (m : Map) (anchors : Anchors) (name : List ℕ) (p : Parted anchors name) → is_among name (names_between m p.low (slice_get p.after 0)) ≡ is_some (at m name)
has-name m anchors name p =
    among-filter (is_between p.low (slice_get p.after 0)) name (keys m) (is-inside p.low name p.after p.at_most p.above) ∙ among-keys m name

-- ---- cutting and joining

-- the tests of the two parts, by that of the whole
module _ (low mid : List ℕ) (high : Option (List ℕ)) (order : below mid low ≡ false) (under : is_under high mid ≡ true) where
  under-mid : (o : Option (List ℕ)) (x : List ℕ) → is_under o mid ≡ true → below x mid ≡ true → is_under o x ≡ true
  under-mid None x under is = refl
  under-mid (Some h) x under is = below-chain x mid h is under

  first-part : (x : List ℕ) → is_between low (Some mid) x ≡ (is_between low high x && below x mid)
  first-part x =
      ⊎_elim
      (λ (is : below x mid ≡ true).
      ap (λ b. not (below x low) && b) is
      ∙ sym (ap (λ b. (not (below x low) && b) && below x mid) (under-mid high x under is) ∙ ap (λ b. (not (below x low) && true) && b) is ∙ plain (not (below x low))))
      (λ (isnt : below x mid ≡ false).
      ap (λ b. not (below x low) && b) isnt ∙ and_false (not (below x low))
      ∙ sym (ap (λ b. is_between low high x && b) isnt ∙ and_false (is_between low high x)))
      (true_or_false (below x mid))
    where
      plain : (b : Bool) → ((b && true) && true) ≡ (b && true)
      plain true = refl
      plain false = refl

  second-part : (x : List ℕ) → is_between mid high x ≡ (is_between low high x && not (below x mid))
  second-part x =
      ⊎_elim
      (λ (is : below x mid ≡ true).
      ap (λ b. not b && is_under high x) is
      ∙ sym (ap (λ b. is_between low high x && not b) is ∙ and_false (is_between low high x)))
      (λ (isnt : below x mid ≡ false).
      ap (λ b. not b && is_under high x) isnt
      ∙ sym (ap (λ b. (not b && is_under high x) && not (below x mid)) (upto-chain low mid x order isnt)
      ∙ ap (λ b. is_under high x && not b) isnt ∙ plain (is_under high x)))
      (true_or_false (below x mid))
    where
      plain : (b : Bool) → (b && true) ≡ b
      plain true = refl
      plain false = refl

  pub first-names : (m : Map) → names_between m low (Some mid) ≡ filter (λ x. below x mid) (names_between m low high)
  first-names m =
      filter_agree (is_between low (Some mid)) (λ x. is_between low high x && below x mid) first-part (keys m)
      ∙ sym (filter-twice (λ x. below x mid) (is_between low high) (keys m))

  pub second-names : (m : Map) → names_between m mid high ≡ filter (λ x. not (below x mid)) (names_between m low high)
  second-names m =
      filter_agree (is_between mid high) (λ x. is_between low high x && not (below x mid)) second-part (keys m)
      ∙ sym (filter-twice (λ x. not (below x mid)) (is_between low high) (keys m))

  pub names-joined : (m : Map) → names_between m low (Some mid) ++ names_between m mid high ≡ names_between m low high
  names-joined m =
      ap (λ xs. xs ++ names_between m mid high) (filter_agree (is_between low (Some mid)) (λ x. is_between low high x && below x mid) first-part (keys m))
      ∙ ap (λ xs. filter (λ x. is_between low high x && below x mid) (keys m) ++ xs) (filter_agree (is_between mid high) (λ x. is_between low high x && not (below x mid)) second-part (keys m))
      ∙ cut (is_between low high) mid (keys m) (rise-keys m)

-- ---- all the members together

parts-from : (m : Map) (a : List ℕ) (later : Anchors) → AnchorsRise (a ∷ later) → flat_map (λ (member : Member). member.names) (members m (a ∷ later)) ≡ names_between m a None
parts-from m a [] rise = append-nil (names_between m a None)
parts-from m a (b ∷ bs) rise =
    ap (λ xs. names_between m a (Some b) ++ xs) (parts-from m b bs rise.1)
    ∙ names-joined a b None (not_back a b rise.0.0) refl m

-- all the names of the map are between the empty text and none
pub all-between : (m : Map) → names_between m [] None ≡ keys m
all-between m = filter-all (is_between [] None) (keys m) (all-names (keys m)) where
  all-names : (xs : List (List ℕ)) → AllByRecursion (λ x. is_between [] None x ≡ true) xs
  all-names [] = tt
  all-names (x ∷ xs) = (ap (λ b. not b && true) (empty_first x), all-names xs)

pub members_part_names : (m : Map) (anchors : Anchors) → AreAnchors anchors → flat_map (λ (member : Member). member.names) (members m anchors) ≡ keys m
members_part_names m [] are = absurd (let e = are.first in cc)
members_part_names m (a ∷ later) are =
    parts-from m a later are.rise ∙ ap (λ low. names_between m low None) (some-is a [] are.first) ∙ all-between m
