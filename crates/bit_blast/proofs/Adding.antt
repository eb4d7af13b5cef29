-- What calls add, one after another.
use Rattle.std.proofs.Common.{◌≡◌, List, [], ◌∷◌, ◌++◌, map, sym, ap, ◌∙◌, append_assoc}
use Rattle.std.proofs.lemmas.List.{append-nil, map_push}
use Rattle.netlist.specs.declared.net.Flat.{Flat}
use Rattle.bit_laws.specs.Bitnet.{Node}
use Rattle.bit_nodes.specs.Standing.{node_of}
use Rattle.bit_nodes.specs.declared.nodes.BitNode.{BitNode}
use Rattle.bit_blast.specs.Adding.{Adds}

module _ (flat : Flat) where
  pub nothing_added : (nodes : List BitNode) → Adds flat nodes nodes []
  nothing_added nodes = sym (append-nil (map (node_of flat) nodes))

  pub pushed : (old new : List BitNode) (node : BitNode) → new ≡ old ++ node ∷ [] → Adds flat old new (node_of flat node ∷ [])
  pushed old new node e = ap (λ (ns : List BitNode). map (node_of flat) ns) e ∙ map_push (node_of flat) old node

  pub both_added : (old mid new : List BitNode) (these those : List Node) → Adds flat old mid these → Adds flat mid new those
      → Adds flat old new (these ++ those)
  both_added old mid new these those a b =
      b ∙ ap (λ (ns : List Node). ns ++ those) a ∙ append_assoc (map (node_of flat) old) these those

  -- so of what equals them
  pub added_as : (old new : List BitNode) (these those : List Node) → these ≡ those → Adds flat old new these → Adds flat old new those
  added_as old new these those e a = a ∙ ap (λ (ns : List Node). map (node_of flat) old ++ ns) e

  -- a node, and what is added behind it
  pub added_behind : (old mid new : List BitNode) (node : BitNode) (these : List Node) → mid ≡ old ++ node ∷ [] → Adds flat mid new these
      → Adds flat old new (node_of flat node ∷ these)
  added_behind old mid new node these e a = both_added old mid new (node_of flat node ∷ []) these (pushed old mid node e) a

  -- one, two or three nodes behind what is added
  pub one_added : (old mid new : List BitNode) (these : List Node) (n : BitNode) → Adds flat old mid these → new ≡ mid ++ n ∷ []
      → Adds flat old new (these ++ node_of flat n ∷ [])
  one_added old mid new these n a e = both_added old mid new these (node_of flat n ∷ []) a (pushed mid new n e)

  pub two_added : (old mid p new : List BitNode) (these : List Node) (m n : BitNode) → Adds flat old mid these
      → p ≡ mid ++ m ∷ [] → new ≡ p ++ n ∷ [] → Adds flat old new (these ++ node_of flat m ∷ node_of flat n ∷ [])
  two_added old mid p new these m n a e f =
      added_as old new ((these ++ node_of flat m ∷ []) ++ node_of flat n ∷ []) (these ++ node_of flat m ∷ node_of flat n ∷ [])
      (append_assoc these (node_of flat m ∷ []) (node_of flat n ∷ []))
      (one_added old p new (these ++ node_of flat m ∷ []) n (one_added old mid p these m a e) f)

  pub three_added : (old mid p q new : List BitNode) (these : List Node) (l m n : BitNode) → Adds flat old mid these
      → p ≡ mid ++ l ∷ [] → q ≡ p ++ m ∷ [] → new ≡ q ++ n ∷ []
      → Adds flat old new (these ++ node_of flat l ∷ node_of flat m ∷ node_of flat n ∷ [])
  three_added old mid p q new these l m n a e f g =
      added_as old new ((these ++ node_of flat l ∷ node_of flat m ∷ []) ++ node_of flat n ∷ [])
      (these ++ node_of flat l ∷ node_of flat m ∷ node_of flat n ∷ [])
      (append_assoc these (node_of flat l ∷ node_of flat m ∷ []) (node_of flat n ∷ []))
      (one_added old q new (these ++ node_of flat l ∷ node_of flat m ∷ []) n (two_added old mid p q these l m a e f) g)

  -- the same, where what is added is named as a whole
  pub one_more : (old mid new : List BitNode) (these those : List Node) (n : BitNode) → Adds flat old mid these → new ≡ mid ++ n ∷ []
      → those ≡ these ++ node_of flat n ∷ [] → Adds flat old new those
  one_more old mid new these those n a e step =
      added_as old new (these ++ node_of flat n ∷ []) those (sym step) (one_added old mid new these n a e)

  pub two_more : (old mid p new : List BitNode) (these those : List Node) (m n : BitNode) → Adds flat old mid these → p ≡ mid ++ m ∷ []
      → new ≡ p ++ n ∷ [] → those ≡ these ++ node_of flat m ∷ node_of flat n ∷ [] → Adds flat old new those
  two_more old mid p new these those m n a e f step =
      added_as old new (these ++ node_of flat m ∷ node_of flat n ∷ []) those (sym step) (two_added old mid p new these m n a e f)

  pub three_more : (old mid p q new : List BitNode) (these those : List Node) (l m n : BitNode) → Adds flat old mid these
      → p ≡ mid ++ l ∷ [] → q ≡ p ++ m ∷ [] → new ≡ q ++ n ∷ []
      → those ≡ these ++ node_of flat l ∷ node_of flat m ∷ node_of flat n ∷ [] → Adds flat old new those
  three_more old mid p q new these those l m n a e f g step =
      added_as old new (these ++ node_of flat l ∷ node_of flat m ∷ node_of flat n ∷ []) those (sym step)
      (three_added old mid p q new these l m n a e f g)
