-- What private functions promise: an end as insertions hold it, and what the rules of Links leave of it. Assumes nothing.
use Rattle.std.specs.Prelude.{◌≡◌, Bool, true, false, cond, List, ℕ, ◌≤◌, ◌<◌, get_or, set, replicate}
use Rattle.file.specs.Lists.{any_of}
use Rattle.graph.specs.declared.NodeIndex.{NodeIndex}
use Rattle.graph.specs.declared.Qubit.{Qubit}
use Rattle.graph.specs.declared.End.{End}
use Rattle.graph.specs.declared.Edges.{Edges}
use Rattle.graph.specs.Dag.{absent, present, Edge}
use Rattle.links.specs.declared.numbers.Node.{Node}
use Rattle.links.specs.declared.ends.Members.{Members}
use Rattle.links.specs.declared.ends.Members.TheVariants.{Empty, Only, Several}
use Rattle.links.specs.Links.{Linked}

-- a map's entry of a qubit
abbrev pub entry_at : List ℕ → Qubit → ℕ
entry_at map q = get_or map q.0 absent

-- .. and the map with that entry a node: "the checker has to catch one handed over as the other"
abbrev pub with_entry : List ℕ → Qubit → NodeIndex → List ℕ
with_entry map q v = set map q.0 v.0

-- whether a block of which this is known has a node
abbrev pub has_node : Members → Bool
has_node Empty = false
has_node (Only u) = true
has_node Several = true

-- where it says that a block has one node alone, the block has that node and no other
abbrev pub IsOnly : Members → List Bool → Type 0
IsOnly members block = (u : Node) → members ≡ Only u → block ≡ set (replicate 512 false) u.number.0 true

-- an end of a graph of n nodes: each of its entries is absent or one of these
pub record EndFits (n : ℕ) (e : End) : Type 0 where
  pub entries : (q : ℕ) → present (get_or e.node q absent) ≡ true → get_or e.node q absent < n
  pub all : present e.all.0 ≡ true → e.all.0 < n

-- what an insertion knows of an end: that it names nodes of a graph, a bound from which on no qubit is mapped, and of the block whether it has a
-- node, and which it has alone
pub record Known (e : End) (top : ℕ) (members : Members) : Type 0 where
  pub fits : EndFits 512 e
  pub low : top ≤ 64
  pub above : (q : ℕ) → top ≤ q → get_or e.node q absent ≡ absent
  pub some : has_node members ≡ any_of (λ b. b) e.block
  pub only : IsOnly members e.block

-- edge i is e
abbrev pub with_edge : Edges → ℕ → Edge → Edges
with_edge es i e = record { count = es.count; from = set es.from i e.from; to = set es.to i e.to }

-- near, far and the others after the new node joined them, by the rule's x
pub record Joined (x : Linked) (near far : End) (others : List ℕ) : Type 0 where
  pub near_is : near ≡ x.near
  pub far_is : far ≡ x.far
  pub others_are : others ≡ x.others

-- the same of first and last: near is last at the back and first at the front
pub record JoinedEnds (front : Bool) (x : Linked) (first last : End) (others : List ℕ) : Type 0 where
  pub first_is : first ≡ cond front x.near x.far
  pub last_is : last ≡ cond front x.far x.near
  pub others_are : others ≡ x.others
