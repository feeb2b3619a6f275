-- What the words of the command line ask the program to do.
use Rattle.std.specs.Prelude.{◌≡◌, ◌≤◌, ◌⊎◌, ℕ, Bool, true, List, Option, Some, None, option_map}
use Rattle.rv_words.specs.{Asked.Asked, Asked.prove, Asked.check, Asked.replay, Asked.make, Asked.tour, Words.command}
use Rattle.rv_run.specs.{declared.words.Task.Task, declared.words.FileCommand.FileCommand, declared.words.Request.Request}
use Rattle.rv_run.specs.declared.words.Task.TheVariants as task
use Rattle.rv_run.specs.declared.words.Request.TheVariants as request

-- What words ask for: the file of a source and the node in it, what is done with which document beside it, how many nodes the diagrams
-- and how many locations a left partition may have, whether loops are accelerated, and of how many calls a source is made and shown, or made
-- and proved. Words that are no command ask for nothing.
pub record Wanted : Type 0 where
  pub named : Option (List ℕ × List ℕ)
  pub beside : Option (Task × List ℕ)
  pub nodes : ℕ
  pub locations : ℕ
  pub accelerate : Bool
  pub made : Option ℕ
  pub toured : Option ℕ

-- how many nodes the diagrams may have where the words do not say so
abbrev pub usual_nodes : ℕ
usual_nodes = 4194304

-- how many locations a left partition may have where they do not
abbrev pub usual_locations : ℕ
usual_locations = 256

abbrev pub wanted_of : Option Asked → Wanted
wanted_of None = record {
  named = None;
  beside = None;
  nodes = usual_nodes;
  locations = usual_locations;
  accelerate = true;
  made = None;
  toured = None;
}
wanted_of (Some (prove file node nodes locations accelerate)) = record {
  named = Some (file, node);
  beside = None;
  nodes = nodes;
  locations = locations;
  accelerate = accelerate;
  made = None;
  toured = None;
}
wanted_of (Some (check file node invariant nodes)) = record {
  named = Some (file, node);
  beside = Some (task.Check, invariant);
  nodes = nodes;
  locations = usual_locations;
  accelerate = true;
  made = None;
  toured = None;
}
wanted_of (Some (replay file node trace)) = record {
  named = Some (file, node);
  beside = Some (task.Replay, trace);
  nodes = usual_nodes;
  locations = usual_locations;
  accelerate = true;
  made = None;
  toured = None;
}
wanted_of (Some (make n)) = record {
  named = None;
  beside = None;
  nodes = usual_nodes;
  locations = usual_locations;
  accelerate = true;
  made = Some n;
  toured = None;
}
wanted_of (Some (tour n)) = record {
  named = None;
  beside = None;
  nodes = usual_nodes;
  locations = usual_locations;
  accelerate = true;
  made = None;
  toured = Some n;
}

-- What these words ask for.
abbrev pub wanted : List (List ℕ) → Wanted
wanted words = wanted_of (command words)

-- The words name this file.
abbrev pub IsNamed : Wanted → List ℕ → Type 0
IsNamed w file = ((node : List ℕ) × (w.named ≡ Some (file, node))) ⊎ ((task : Task) × (w.beside ≡ Some (task, file)))

-- ---- What the program takes them for.
abbrev pub wanted_on_file : FileCommand → Wanted
wanted_on_file c = record {
  named = Some (c.file.now, c.node.now);
  beside = option_map (λ b. (b.task, b.file.now)) c.beside;
  nodes = c.nodes;
  locations = c.locations;
  accelerate = c.accelerate;
  made = None;
  toured = None;
}

abbrev pub wanted_by : Option Request → Wanted
wanted_by None = wanted_of None
wanted_by (Some (request.File c)) = wanted_on_file c
wanted_by (Some (request.Make n)) = wanted_of (Some (make n))
wanted_by (Some (request.Tour n)) = wanted_of (Some (tour n))

-- The numbers are within their ranges.
abbrev pub HasRanges : Option Request → Type 0
HasRanges None = Unit {0}
HasRanges (Some (request.File c)) = ((1 ≤ c.nodes) × (c.nodes ≤ 33554432)) × ((1 ≤ c.locations) × (c.locations ≤ 4096))
HasRanges (Some (request.Make n)) = (1 ≤ n) × (n ≤ 2000)
HasRanges (Some (request.Tour n)) = (1 ≤ n) × (n ≤ 2000)
