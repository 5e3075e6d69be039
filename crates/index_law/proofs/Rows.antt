-- What a store at a place makes of the facts that are read off a row.
use Rattle.std.proofs.Common.{◌≡◌, ◌≢◌, ℕ, ◌+◌, ◌*◌, ◌^◌, ◌<◌, ◌≤◌, ⊎_elim, Bool, true, false, cond, ◌&&◌, List, ◌++◌, length, slice_index, slice_set, refl, sym, ap, ◌∙◌, subst, arith}
use Rattle.std.specs.Prelude.{◌==◌, if◌then◌else◌, nat_lt}
use Rattle.std.proofs.lemmas.Bool.{lt-ltb, ltb-true, cases_eq, eq-eqb, ne_eqb}
use Rattle.std.proofs.lemmas.List.{get_or-set_other}
use Rattle.pm_words.specs.declared.layout.Layout.{Layout}
use Rattle.pm_words.specs.Locations.{Location, Cached, Node, Volatile, HasLocation, address_of, node_words, row_words}
use Rattle.pm_words.proofs.Apart.{at-set_other, at-set_same, addresses_apart}
use Rattle.cat_history.specs.Maps.{Map}
use Rattle.cat_history.specs.declared.op.Write.{Write}
use Rattle.data_node.specs.Spots.{Spot, updated}
use Rattle.data_node.specs.Lists.{ListNode, anchor_in, members_from, IsIn, with_member, without_member}
use Rattle.data_node.proofs.SpotLemmas.{updated-other}
use Rattle.call_stages.specs.Kinds.{version_address, word_address, status_address, HasWordAt, IsContent}
use Rattle.index_law.specs.Facts.{Facts, facts_of, version_in, status_in, spot_in, list_in, cached_word}
use Rattle.data_node.proofs.ListLemmas.{members_alike}
use Rattle.pm_words.specs.Offsets.{version_offset, next_offset, status_offset}
use Rattle.index_law.proofs.Places.{node_at, offset_at}

-- the words that belong to a node's spot
abbrev pub in_spot : Layout → ℕ → ℕ → Bool
in_spot l n offset = nat_lt n l.nodes && (nat_lt 0 offset && nat_lt offset (node_words l))

both : (a b : Bool) → (a && b) ≡ true → (a ≡ true) × (b ≡ true)
both true b e = (refl, e)
both false b e = absurd (let no_way : false ≡ true = e in cc)

pub in_spot-true : (l : Layout) (n offset : ℕ) → in_spot l n offset ≡ true → HasWordAt l n offset × (0 < offset)
in_spot-true l n offset e =
    let outer = both (nat_lt n l.nodes) (nat_lt 0 offset && nat_lt offset (node_words l)) e in
    let inner = both (nat_lt 0 offset) (nat_lt offset (node_words l)) outer.1 in
    ((ltb-true n l.nodes outer.0, ltb-true offset (node_words l) inner.1), ltb-true 0 offset inner.0)

true-in_spot : (l : Layout) (n offset : ℕ) → HasWordAt l n offset → 0 < offset → in_spot l n offset ≡ true
true-in_spot l n offset has positive =
    rw (lt-ltb n l.nodes has.0) (rw (lt-ltb 0 offset positive) (lt-ltb offset (node_words l) has.1))

-- a node of the layout has its version at the version's place
pub version_in-here : (l : Layout) (words : List ℕ) (n : ℕ) → n < l.nodes → version_in l words n ≡ slice_index words (version_address l n)
unfolding version_in
version_in-here l words n here = rw (lt-ltb n l.nodes here) refl

-- and each other word at its place
pub spot_in-here : (l : Layout) (words : List ℕ) (n offset : ℕ) → HasWordAt l n offset → 0 < offset → spot_in l words n offset ≡ slice_index words (word_address l n offset)
unfolding spot_in
spot_in-here l words n offset has positive = rw (true-in_spot l n offset has positive) refl

-- each word of a node, its version word among them
pub cached_word-here : (l : Layout) (words : List ℕ) (base : Map) (history : List Write) (n offset : ℕ) → HasWordAt l n offset
    → cached_word (facts_of l words base history) n offset ≡ slice_index words (word_address l n offset)
cached_word-here l words base history n offset has = ⊎_elim
    (λ (first : offset ≡ version_offset). rw (eq-eqb offset version_offset first) (version_in-here l words n has.0 ∙ ap (λ (o : ℕ). slice_index words (word_address l n o)) (sym first)))
    (λ (other : offset ≡ version_offset → ⊥). rw (ne_eqb offset version_offset other) (spot_in-here l words n offset has (omega (arith, other))))
    (cases_eq offset 0)

-- what is read where a test holds, and is 0 otherwise, is the same where the same is read
pub if-alike : (b : Bool) (x y : ℕ) → (b ≡ true → x ≡ y) → cond b x 0 ≡ cond b y 0
if-alike true x y same = same refl
if-alike false x y same = refl

-- rows with the same version words have the same versions
pub version_in-alike : (l : Layout) (words words' : List ℕ) (n : ℕ) → (n < l.nodes → slice_index words' (version_address l n) ≡ slice_index words (version_address l n)) → version_in l words' n ≡ version_in l words n
unfolding version_in
version_in-alike l words words' n same = if-alike (nat_lt n l.nodes) (slice_index words' (version_address l n)) (slice_index words (version_address l n)) (λ here. same (ltb-true n l.nodes here))

pub spot_in-alike : (l : Layout) (words words' : List ℕ) (n offset : ℕ) → (HasWordAt l n offset → 0 < offset → slice_index words' (word_address l n offset) ≡ slice_index words (word_address l n offset)) → spot_in l words' n offset ≡ spot_in l words n offset
unfolding spot_in
spot_in-alike l words words' n offset same = if-alike (in_spot l n offset) (slice_index words' (word_address l n offset)) (slice_index words (word_address l n offset))
    (λ here. let parts = in_spot-true l n offset here in same parts.0 parts.1)

pub status_in-here : (l : Layout) (words : List ℕ) (n : ℕ) → n < l.nodes → status_in l words n ≡ slice_index words (status_address l n)
unfolding status_in
status_in-here l words n here = rw (lt-ltb n l.nodes here) refl

pub status_in-alike : (l : Layout) (words words' : List ℕ) (n : ℕ) → (n < l.nodes → slice_index words' (status_address l n) ≡ slice_index words (status_address l n)) → status_in l words' n ≡ status_in l words n
unfolding status_in
status_in-alike l words words' n same = if-alike (nat_lt n l.nodes) (slice_index words' (status_address l n)) (slice_index words (status_address l n)) (λ here. same (ltb-true n l.nodes here))

-- a place other than the cached words of the nodes and their statuses
abbrev pub IsElsewhere : Location → Type 0
IsElsewhere p = ((n offset : ℕ) → p ≢ Cached (Node n offset)) × ((n : ℕ) → p ≢ Volatile n status_offset)

-- a store at a number that is none of theirs leaves the facts
pub facts-apart : (l : Layout) (words : List ℕ) (base : Map) (history : List Write) (place x : ℕ) → ((n offset : ℕ) → HasWordAt l n offset → word_address l n offset ≢ place)
    → ((n : ℕ) → n < l.nodes → status_address l n ≢ place) → facts_of l (slice_set words place x) base history ≡ facts_of l words base history
facts-apart l words base history place x apart apart_status =
    let words' : List ℕ = slice_set words place x in
    let version : (n : ℕ) → version_in l words' n ≡ version_in l words n =
    λ n. version_in-alike l words words' n (λ here. get_or-set_other words place (version_address l n) x 0 (apart n 0 (here, omega arith))) in
    let status : (n : ℕ) → status_in l words' n ≡ status_in l words n =
    λ n. status_in-alike l words words' n (λ here. get_or-set_other words place (status_address l n) x 0 (apart_status n here)) in
    let spot : (n offset : ℕ) → spot_in l words' n offset ≡ spot_in l words n offset =
    λ n offset. spot_in-alike l words words' n offset (λ here positive. get_or-set_other words place (word_address l n offset) x 0 (apart n offset here)) in
    λ k. record { version = λ n. version n k; status = λ n. status n k; now = λ n offset. spot n offset k; list = members_from (λ n offset. spot n offset k) l.nodes 0; base = base; history = history }

-- and so does a store elsewhere
pub facts-elsewhere : (l : Layout) (words : List ℕ) (base : Map) (history : List Write) (p : Location) (x : ℕ) → HasLocation l p → IsElsewhere p
    → facts_of l (slice_set words (address_of l p) x) base history ≡ facts_of l words base history
facts-elsewhere l words base history p x has other =
    facts-apart l words base history (address_of l p) x (λ n offset here same. other.0 n offset (addresses_apart l p (Cached (Node n offset)) has here (sym same)))
    (λ n here same. other.1 n (addresses_apart l p (Volatile n status_offset) has (here, omega arith) (sym same)))

-- the facts with another version word of a node
abbrev pub with_version : Facts → ℕ → ℕ → Facts
with_version f n w = record { version = λ m. if m == n then w else f.version m; status = f.status; now = f.now; list = f.list; base = f.base; history = f.history }

-- the facts with another status of a node
abbrev pub with_status : Facts → ℕ → ℕ → Facts
with_status f n x = record { version = f.version; status = λ m. if m == n then x else f.status m; now = f.now; list = f.list; base = f.base; history = f.history }

-- the words of the nodes with another word of one
abbrev pub word_set : (ℕ → Spot) → ℕ → ℕ → ℕ → ℕ → Spot
word_set now n offset y m = if m == n then updated (now n) offset y else now m

-- the facts with another word of a node
abbrev pub with_word : Facts → ℕ → ℕ → ℕ → Facts
with_word f n offset y = record { version = f.version; status = f.status; now = word_set f.now n offset y; list = f.list; base = f.base; history = f.history }

-- the facts once a node leads to another one, which is a member then
abbrev pub new_member : (ℕ → Spot) → ℕ → ListNode
new_member now y = record { node = y; anchor = anchor_in (now y) }

abbrev pub with_next : Facts → ℕ → ℕ → Facts
with_next f n y =
    record { version = f.version; status = f.status; now = word_set f.now n next_offset y; list = with_member n (new_member f.now y) 0 f.list; base = f.base; history = f.history }

-- the facts once a node leads past the node r, which is no member then
abbrev pub with_past : Facts → ℕ → ℕ → ℕ → Facts
with_past f n y r =
    record { version = f.version; status = f.status; now = word_set f.now n next_offset y; list = without_member r f.list; base = f.base; history = f.history }

-- the facts with a longer history
abbrev pub with_writes : Facts → List Write → Facts
with_writes f more = record { version = f.version; status = f.status; now = f.now; list = f.list; base = f.base; history = f.history ++ more }

-- the words of a node whose word is another, and of the others
pub set_here : (now : ℕ → Spot) (n offset y m : ℕ) → m ≡ n → word_set now n offset y m ≡ updated (now m) offset y
set_here now n offset y m same = ap (λ (b : Bool). cond b (updated (now n) offset y) (now m)) (eq-eqb m n same) ∙ ap (λ k. updated (now k) offset y) (sym same)

pub set_else : (now : ℕ → Spot) (n offset y m : ℕ) → m ≢ n → word_set now n offset y m ≡ now m
set_else now n offset y m other = ap (λ (b : Bool). cond b (updated (now n) offset y) (now m)) (ne_eqb m n other)

-- each word but that one stays
pub set_other : (now : ℕ → Spot) (n offset y m other : ℕ) → ((m ≡ n) → other ≢ offset) → word_set now n offset y m other ≡ now m other
set_other now n offset y m other apart = ⊎_elim
    (λ (same : m ≡ n). ap (λ (s : Spot). s other) (set_here now n offset y m same) ∙ updated-other (now m) offset y other (apart same))
    (λ (differ : m ≢ n). ap (λ (s : Spot). s other) (set_else now n offset y m differ))
    (cases_eq m n)

-- a node leads where it did, and its anchor is the same
abbrev pub SameLinks : (ℕ → Spot) → (ℕ → Spot) → ℕ → Type 0
SameLinks now now' n = (now' n next_offset ≡ now n next_offset) × (anchor_in (now' n) ≡ anchor_in (now n))

pub anchor-alike : (s t : Spot) → ((offset : ℕ) → 3 ≤ offset → offset ≤ 5 → t offset ≡ s offset) → anchor_in t ≡ anchor_in s
unfolding anchor_in
anchor-alike s t same = λ k. (same 3 (omega arith) (omega arith) k * 2 ^ 64 + same 4 (omega arith) (omega arith) k) * 2 ^ 64 + same 5 (omega arith) (omega arith) k

pub links_content : (now : ℕ → Spot) (n offset y : ℕ) → IsContent offset → (m : ℕ) → SameLinks now (word_set now n offset y) m
links_content now n offset y content m = (
  set_other now n offset y m next_offset (λ same is. ⊎_elim (λ bits. omega arith) (λ far. omega arith) content),
  anchor-alike (now m) (word_set now n offset y m) (λ other low high. set_other now n offset y m other (λ same is. ⊎_elim (λ bits. omega arith) (λ far. omega arith) content)),
)

pub links_else : (now : ℕ → Spot) (n offset y m : ℕ) → m ≢ n → SameLinks now (word_set now n offset y) m
links_else now n offset y m other = (
  ap (λ (s : Spot). s next_offset) (set_else now n offset y m other),
  ap anchor_in (set_else now n offset y m other),
)

-- the offset of a place's word in its node
-- a store at a node's version word
pub facts-version : (l : Layout) (words : List ℕ) (base : Map) (history : List Write) (n w : ℕ) → length words ≡ row_words l → n < l.nodes
    → facts_of l (slice_set words (version_address l n) w) base history ≡ with_version (facts_of l words base history) n w
facts-version l words base history n w whole here =
    let words' : List ℕ = slice_set words (version_address l n) w in
    let has : HasLocation l (Cached (Node n version_offset)) = (here, omega arith) in
    let version : (m : ℕ) → version_in l words' m ≡ (if m == n then w else version_in l words m) =
    λ m. ⊎_elim
    (λ (same : m ≡ n). subst (λ (k : ℕ). version_in l words' k ≡ (if k == n then w else version_in l words k)) (sym same)
    (version_in-here l words' n here ∙ at-set_same l words (Cached (Node n version_offset)) w whole has ∙ sym (rw (eq-eqb n n refl) refl)))
    (λ (other : m ≡ n → ⊥).
    version_in-alike l words words' m (λ there. at-set_other l words (Cached (Node n version_offset)) (Cached (Node m version_offset)) w has (there, omega arith) (λ e. other (ap node_at e)))
    ∙ sym (rw (ne_eqb m n other) refl))
    (cases_eq m n) in
    let status : (m : ℕ) → status_in l words' m ≡ status_in l words m =
    λ m. status_in-alike l words words' m (λ there. at-set_other l words (Cached (Node n version_offset)) (Volatile m status_offset) w has (there, omega arith) (λ e. cc)) in
    let spot : (m offset : ℕ) → spot_in l words' m offset ≡ spot_in l words m offset =
    λ m offset. spot_in-alike l words words' m offset
    (λ there positive. at-set_other l words (Cached (Node n version_offset)) (Cached (Node m offset)) w has there (λ e. let none = ap offset_at e in omega arith)) in
    λ k. record { version = λ m. version m k; status = λ m. status m k; now = λ m offset. spot m offset k; list = members_from (λ m offset. spot m offset k) l.nodes 0; base = base; history = history }

-- a store at a node's status
pub facts-status : (l : Layout) (words : List ℕ) (base : Map) (history : List Write) (n x : ℕ) → length words ≡ row_words l → n < l.nodes
    → facts_of l (slice_set words (status_address l n) x) base history ≡ with_status (facts_of l words base history) n x
facts-status l words base history n x whole here =
    let words' : List ℕ = slice_set words (status_address l n) x in
    let has : HasLocation l (Volatile n status_offset) = (here, omega arith) in
    let version : (m : ℕ) → version_in l words' m ≡ version_in l words m =
    λ m. version_in-alike l words words' m (λ there. at-set_other l words (Volatile n status_offset) (Cached (Node m version_offset)) x has (there, omega arith) (λ e. cc)) in
    let status : (m : ℕ) → status_in l words' m ≡ (if m == n then x else status_in l words m) =
    λ m. ⊎_elim
    (λ (same : m ≡ n). subst (λ (k : ℕ). status_in l words' k ≡ (if k == n then x else status_in l words k)) (sym same)
    (status_in-here l words' n here ∙ at-set_same l words (Volatile n status_offset) x whole has ∙ sym (rw (eq-eqb n n refl) refl)))
    (λ (other : m ≡ n → ⊥).
    status_in-alike l words words' m (λ there. at-set_other l words (Volatile n status_offset) (Volatile m status_offset) x has (there, omega arith) (λ e. other (ap node_at e)))
    ∙ sym (rw (ne_eqb m n other) refl))
    (cases_eq m n) in
    let spot : (m offset : ℕ) → spot_in l words' m offset ≡ spot_in l words m offset =
    λ m offset. spot_in-alike l words words' m offset (λ there positive. at-set_other l words (Volatile n status_offset) (Cached (Node m offset)) x has there (λ e. cc)) in
    λ k. record { version = λ m. version m k; status = λ m. status m k; now = λ m offset. spot m offset k; list = members_from (λ m offset. spot m offset k) l.nodes 0; base = base; history = history }

-- a store at another word of a node
module _ (l : Layout) (words : List ℕ) (base : Map) (history : List Write) (n offset y : ℕ) (whole : length words ≡ row_words l) (has : HasWordAt l n offset) (positive : 0 < offset) where
  abbrev words_set : List ℕ
  words_set = slice_set words (word_address l n offset) y

  version-word : (m : ℕ) → version_in l words_set m ≡ version_in l words m
  version-word m = version_in-alike l words words_set m
      (λ there. at-set_other l words (Cached (Node n offset)) (Cached (Node m version_offset)) y has (there, omega arith) (λ e. let none = ap offset_at e in omega arith))

  status-word : (m : ℕ) → status_in l words_set m ≡ status_in l words m
  status-word m = status_in-alike l words words_set m (λ there. at-set_other l words (Cached (Node n offset)) (Volatile m status_offset) y has (there, omega arith) (λ e. cc))

  own-word : (o : ℕ) → spot_in l words_set n o ≡ updated (spot_in l words n) offset y o
  unfolding updated
  own-word o = ⊎_elim
      (λ (same : o ≡ offset). subst (λ (k : ℕ). spot_in l words_set n k ≡ updated (spot_in l words n) offset y k) (sym same)
      (spot_in-here l words_set n offset has positive ∙ at-set_same l words (Cached (Node n offset)) y whole has ∙ sym (rw (eq-eqb offset offset refl) refl)))
      (λ (other : o ≡ offset → ⊥).
      spot_in-alike l words words_set n o (λ there _. at-set_other l words (Cached (Node n offset)) (Cached (Node n o)) y has there (λ e. other (ap offset_at e)))
      ∙ sym (rw (ne_eqb o offset other) refl))
      (cases_eq o offset)

  spot-word : (m o : ℕ) → spot_in l words_set m o ≡ word_set (spot_in l words) n offset y m o
  spot-word m o = ⊎_elim
      (λ (same : m ≡ n). subst (λ (k : ℕ). spot_in l words_set k o ≡ word_set (spot_in l words) n offset y k o) (sym same)
      (own-word o ∙ sym (ap (λ (s : Spot). s o) (set_here (spot_in l words) n offset y n refl))))
      (λ (other : m ≡ n → ⊥).
      spot_in-alike l words words_set m o (λ there _. at-set_other l words (Cached (Node n offset)) (Cached (Node m o)) y has there (λ e. other (ap node_at e)))
      ∙ sym (ap (λ (s : Spot). s o) (set_else (spot_in l words) n offset y m other)))
      (cases_eq m n)

  -- with what it makes of the list
  facts-set : (after : List ListNode) → members_from (word_set (spot_in l words) n offset y) l.nodes 0 ≡ after
      → facts_of l (slice_set words (word_address l n offset) y) base history
      ≡ record { version = version_in l words; status = status_in l words; now = word_set (spot_in l words) n offset y; list = after; base = base; history = history }
  facts-set after list =
      (λ k. record {
        version = λ m. version-word m k;
        status = λ m. status-word m k;
        now = λ m o. spot-word m o k;
        list = members_from (λ m o. spot-word m o k) l.nodes 0;
        base = base;
        history = history;
      }) ∙ (λ k. record {
        version = version_in l words;
        status = status_in l words;
        now = word_set (spot_in l words) n offset y;
        list = list k;
        base = base;
        history = history;
      })

  -- where the links of the listed nodes stay
  pub facts-word : ((m : ℕ) → IsIn (list_in l words) m → SameLinks (spot_in l words) (word_set (spot_in l words) n offset y) m)
      → facts_of l (slice_set words (word_address l n offset) y) base history ≡ with_word (facts_of l words base history) n offset y
  facts-word links = facts-set (list_in l words) (members_alike (spot_in l words) (word_set (spot_in l words) n offset y) l.nodes 0 links)

-- a store by which a node leads elsewhere, with what it makes of the list
facts-leads : (l : Layout) (words : List ℕ) (base : Map) (history : List Write) (n y : ℕ) (after : List ListNode) → length words ≡ row_words l → HasWordAt l n next_offset
    → members_from (word_set (spot_in l words) n next_offset y) l.nodes 0 ≡ after
    → facts_of l (slice_set words (word_address l n next_offset) y) base history
    ≡ record { version = version_in l words; status = status_in l words; now = word_set (spot_in l words) n next_offset y; list = after; base = base; history = history }
facts-leads l words base history n y after whole has list = facts-set l words base history n next_offset y whole has (omega arith) after list

-- a store by which a node leads to another one
pub facts-next : (l : Layout) (words : List ℕ) (base : Map) (history : List Write) (n y : ℕ) → length words ≡ row_words l → HasWordAt l n next_offset
    → members_from (word_set (spot_in l words) n next_offset y) l.nodes 0 ≡ with_member n (new_member (spot_in l words) y) 0 (list_in l words)
    → facts_of l (slice_set words (word_address l n next_offset) y) base history ≡ with_next (facts_of l words base history) n y
facts-next l words base history n y whole has list = facts-leads l words base history n y _ whole has list

-- a store by which a node leads past another one
pub facts-past : (l : Layout) (words : List ℕ) (base : Map) (history : List Write) (n y r : ℕ) → length words ≡ row_words l → HasWordAt l n next_offset
    → members_from (word_set (spot_in l words) n next_offset y) l.nodes 0 ≡ without_member r (list_in l words)
    → facts_of l (slice_set words (word_address l n next_offset) y) base history ≡ with_past (facts_of l words base history) n y r
facts-past l words base history n y r whole has list = facts-leads l words base history n y _ whole has list
