-- Which quantity is the first that is too large, from capped sums.
use Rattle.std.proofs.Common.{◌≡◌, inl, inr, ℕ, ◌<◌, ◌≤◌, min, map, refl, arith}
use Rattle.rv_tree.specs.{Tree.ProgramTree, Places.Identifier}
use Rattle.rv_calls.specs.declared.fault.Quantity.TheVariants as quantity
use Rattle.rv_instances.specs.Counts.{instance_count, expanded, integer_memories, integer_inputs}
use Rattle.rv_sizes.specs.{Sizes.first_above, Sizes.measures, Sizes.IsFirstAbove, Capped.capped, Sized.IsSmall, Sized.IsSized}
use Rattle.rv_types.specs.{Variables.over_instances, Variables.variable_count, Values.label_count, Instances.node_of}
use Rattle.rv_base.specs.Limits.{heaviest}

above : (limit n c : ℕ) → n ≡ min c heaviest → limit < n → limit < c
above limit n c is more = omega (arith, is, more)

below : (limit n c : ℕ) → n ≡ min c heaviest → n ≤ limit → limit < heaviest → c ≤ limit
below limit n c is less small = omega (arith, is, less, small)

same : (limit n c : ℕ) → n ≡ min c heaviest → n ≤ limit → limit < heaviest → n ≡ c
same limit n c is less small = omega (arith, is, less, small)

module _ (p : ProgramTree) (main : Identifier) where
  pub instances_above : (n : ℕ) → n ≡ capped (instance_count p main) → 4000 < n → IsFirstAbove (measures p main) quantity.Instances n
  instances_above n is more = inl (above 4000 n (instance_count p main) is more, refl, is)

  pub expanded_above : (m n : ℕ) → m ≡ capped (instance_count p main) → m ≤ 4000 → n ≡ capped (expanded p main) → 200000 < n
      → IsFirstAbove (measures p main) quantity.Expanded n
  expanded_above m n few less is more =
      inr (below 4000 m (instance_count p main) few less (omega arith), inl (above 200000 n (expanded p main) is more, refl, is))

  pub is_small : (m n : ℕ) → m ≡ capped (instance_count p main) → m ≤ 4000 → n ≡ capped (expanded p main) → n ≤ 200000 → IsSmall p main n
  is_small m n few less is small = record {
    instances = below 4000 m (instance_count p main) few less (omega arith);
    expressions = below 200000 n (expanded p main) is small (omega arith);
    counted = same 200000 n (expanded p main) is small (omega arith);
  }

  pub memories_above : (c n : ℕ) → IsSmall p main c → n ≡ capped (over_instances p main (integer_memories p)) → 64 < n
      → IsFirstAbove (measures p main) quantity.Memories n
  memories_above c n s is more = inr (s.instances, inr (s.expressions, inl (above 64 n (over_instances p main (integer_memories p)) is more, refl, is)))

  pub inputs_above : (c m n : ℕ) → IsSmall p main c → m ≡ capped (over_instances p main (integer_memories p)) → m ≤ 64
      → n ≡ capped (integer_inputs p (node_of p main)) → 64 < n → IsFirstAbove (measures p main) quantity.Inputs n
  inputs_above c m n s held few is more =
      let memories = below 64 m (over_instances p main (integer_memories p)) held few (omega arith) in
      inr (s.instances, inr (s.expressions, inr (memories, inl (above 64 n (integer_inputs p (node_of p main)) is more, refl, is))))

  pub labels_above : (c m k n : ℕ) → IsSmall p main c → m ≡ capped (over_instances p main (integer_memories p)) → m ≤ 64
      → k ≡ capped (integer_inputs p (node_of p main)) → k ≤ 64 → n ≡ capped (first_above 256 (map label_count p.types)) → 256 < n
      → IsFirstAbove (measures p main) quantity.Labels n
  labels_above c m k n s held few taken less is more =
      let memories = below 64 m (over_instances p main (integer_memories p)) held few (omega arith) in
      let inputs = below 64 k (integer_inputs p (node_of p main)) taken less (omega arith) in
      let labels = above 256 n (first_above 256 (map label_count p.types)) is more in
      inr (s.instances, inr (s.expressions, inr (memories, inr (inputs, inl (labels, refl, is)))))

  pub variables_above : (c m k l n : ℕ) → IsSmall p main c → m ≡ capped (over_instances p main (integer_memories p)) → m ≤ 64
      → k ≡ capped (integer_inputs p (node_of p main)) → k ≤ 64 → l ≡ capped (first_above 256 (map label_count p.types)) → l ≤ 256
      → n ≡ capped (variable_count p main) → 4096 < n → IsFirstAbove (measures p main) quantity.Variables n
  variables_above c m k l n s held few taken less named fits is more =
      let memories = below 64 m (over_instances p main (integer_memories p)) held few (omega arith) in
      let inputs = below 64 k (integer_inputs p (node_of p main)) taken less (omega arith) in
      let labels = below 256 l (first_above 256 (map label_count p.types)) named fits (omega arith) in
      let variables = above 4096 n (variable_count p main) is more in
      inr (s.instances, inr (s.expressions, inr (memories, inr (inputs, inr (labels, inl (variables, refl, is))))))

  pub is_sized : (c m k l n : ℕ) → IsSmall p main c → m ≡ capped (over_instances p main (integer_memories p)) → m ≤ 64
      → k ≡ capped (integer_inputs p (node_of p main)) → k ≤ 64 → l ≡ capped (first_above 256 (map label_count p.types)) → l ≤ 256
      → n ≡ capped (variable_count p main) → n ≤ 4096 → IsSized p main c
  is_sized c m k l n s held few taken less named fits is small = record {
    small = s;
    memories = below 64 m (over_instances p main (integer_memories p)) held few (omega arith);
    inputs = below 64 k (integer_inputs p (node_of p main)) taken less (omega arith);
    labels = below 256 l (first_above 256 (map label_count p.types)) named fits (omega arith);
    variables = below 4096 n (variable_count p main) is small (omega arith);
  }

-- what tells, quantity by quantity, the first that is too large, or that none is
pub ruleset judged = (memories_above, inputs_above, labels_above, variables_above, is_sized)
