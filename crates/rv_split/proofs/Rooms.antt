-- The room that is left where the first to the fourth of four calls in turn fails for want of it.
use Rattle.std.proofs.Common.{ℕ, ◌+◌, ◌*◌, ◌≤◌, ◌≡◌, length, ◌∙◌, subst, arith}
use Rattle.rv_diagram.specs.{Nodes.Diagrams, Nodes.Grows, Room.Lacks, Room.step_room}
use Rattle.rv_diagram.proofs.Room.{lacks_more, lacks_after}

pub room_one : (s0 s1 : Diagrams) → s1 ≡ s0 → Lacks 1 s1 → Lacks 4 s0
room_one s0 s1 same lacks = lacks_more 1 4 s0 (subst (λ (d : Diagrams). Lacks 1 d) same lacks) (omega arith)

module _ (s0 s1 : Diagrams) (g : Grows s0 s1) (grown : length s1.nodes ≤ length s0.nodes + step_room s0.variables) where
  one : length s1.nodes ≤ length s0.nodes + 1 * step_room s0.variables
  one = omega (arith, grown)

  pub room_two : (s2 : Diagrams) → s2 ≡ s1 → Lacks 1 s2 → Lacks 4 s0
  room_two s2 same lacks = lacks_after s0 s1 1 1 4 (omega arith) g.variables g.limit one (subst (λ (d : Diagrams). Lacks 1 d) same lacks)

  module _ (s2 : Diagrams) (h : Grows s1 s2) (more : length s2.nodes ≤ length s1.nodes + step_room s1.variables) where
    two : length s2.nodes ≤ length s0.nodes + 2 * step_room s0.variables
    two =
        let here : length s2.nodes ≤ length s1.nodes + step_room s0.variables =
        subst (λ (m : ℕ). length s2.nodes ≤ length s1.nodes + step_room m) g.variables more in
        omega (arith, here, grown)

    pub room_three : (s3 : Diagrams) → s3 ≡ s2 → Lacks 1 s3 → Lacks 4 s0
    room_three s3 same lacks = lacks_after s0 s2 2 1 4 (omega arith) (h.variables ∙ g.variables) (h.limit ∙ g.limit) two
        (subst (λ (d : Diagrams). Lacks 1 d) same lacks)

    pub room_four : (s3 s4 : Diagrams) → Grows s2 s3 → length s3.nodes ≤ length s2.nodes + step_room s2.variables → s4 ≡ s3 → Lacks 1 s4 → Lacks 4 s0
    room_four s3 s4 k most same lacks =
        let here : length s3.nodes ≤ length s2.nodes + step_room s0.variables =
        subst (λ (m : ℕ). length s3.nodes ≤ length s2.nodes + step_room m) (h.variables ∙ g.variables) most in
        let three : length s3.nodes ≤ length s0.nodes + 3 * step_room s0.variables = omega (arith, here, two) in
        lacks_after s0 s3 3 1 4 (omega arith) (k.variables ∙ h.variables ∙ g.variables) (k.limit ∙ h.limit ∙ g.limit) three
        (subst (λ (d : Diagrams). Lacks 1 d) same lacks)
