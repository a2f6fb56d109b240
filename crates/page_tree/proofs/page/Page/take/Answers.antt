use Rattle.page_tree.proofs.Changes.{tells_name}
use Rattle.page_tree.proofs.Turned.{low_of}
use Rattle.page_tree.proofs.page.Page.take.Goals as goal

pub take_out-requires : goal.take_out-requires
take_out-requires c =
    let id = c.known-id.result in
    record {
      live = c.known-id.ensures.live;
      low = low_of c.args.self.now id c.args.name.now c.stands.ensures.rooted c.known-id.ensures c.requires.found.no_root;
      name = tells_name id c.args.name.now c.args.self.now.nodes.tree c.known-id.ensures.tells;
    }

pub returns-clause-changes : goal.returns-clause-changes
returns-clause-changes c =
    record {
      id = c.known-id.result;
      found = c.known-id.ensures;
      low = low_of c.args.self.now c.known-id.result c.args.name.now c.stands.ensures.rooted c.known-id.ensures c.requires.found.no_root;
      is = c.take_out.ensures.nodes;
    }
