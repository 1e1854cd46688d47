-- Where each member goes.
use Rattle.std.specs.Prelude.{ℕ, pos, false, List, [], codes, None, unwrap_or, if◌then◌else◌}
use Rattle.std.specs.Str.{bytes_eq}
use Rattle.tf_model.specs.declared.tree.Tree.{Tree}
use Rattle.tf_model.specs.declared.tree.Tree.TheVariants as tree
use Rattle.tf_model.specs.Trees.{text_in, number_in, truth_in}
use Rattle.tf_command.specs.Forms.{object_in, array_in, size_in, lane_in, checkpoint_in, moment_in, documents_in}
use Rattle.tf_command.specs.declared.members.Members.{Members}

-- what no member says
abbrev pub nothing_said : Members
nothing_said = record {
  after = None;
  at_ms = None;
  checkpoint = 0;
  config = tree.Null;
  doc = tree.Null;
  docs = [];
  force = false;
  id = [];
  index = [];
  lane = 0;
  mappings = tree.Null;
  shards = pos 1;
  size = 10;
  stamp = None;
  wait = false;
}

-- what is said with one member more, which goes to its place; a member of another name goes nowhere
abbrev pub put_in : List ℕ → Tree → Members → Members
put_in name t m =
    if bytes_eq name (codes "after") then record m { after = array_in t }
    else (if bytes_eq name (codes "at") then record m { at_ms = moment_in t }
    else (if bytes_eq name (codes "checkpoint") then record m { checkpoint = unwrap_or (checkpoint_in t) 0 }
    else (if bytes_eq name (codes "config") then record m { config = unwrap_or (object_in t) tree.Null }
    else (if bytes_eq name (codes "doc") then record m { doc = unwrap_or (object_in t) tree.Null }
    else (if bytes_eq name (codes "docs") then record m { docs = unwrap_or (documents_in t) [] }
    else (if bytes_eq name (codes "force") then record m { force = unwrap_or (truth_in t) false }
    else (if bytes_eq name (codes "id") then record m { id = unwrap_or (text_in t) [] }
    else (if bytes_eq name (codes "index") then record m { index = unwrap_or (text_in t) [] }
    else (if bytes_eq name (codes "lane") then record m { lane = unwrap_or (lane_in t) 0 }
    else (if bytes_eq name (codes "mappings") then record m { mappings = unwrap_or (object_in t) tree.Null }
    else (if bytes_eq name (codes "shards") then record m { shards = unwrap_or (number_in t) (pos 1) }
    else (if bytes_eq name (codes "size") then record m { size = unwrap_or (size_in t) 10 }
    else (if bytes_eq name (codes "stamp") then record m { stamp = text_in t }
    else (if bytes_eq name (codes "wait_for_checkpoint") then record m { wait = unwrap_or (truth_in t) false }
    else m))))))))))))))
