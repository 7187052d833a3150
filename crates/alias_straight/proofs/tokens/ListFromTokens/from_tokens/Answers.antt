use Rattle.std.proofs.Common.{◌≡◌, ◌-◌, List, Some, None, subst, arith}
use Rattle.json.specs.Token.{Token}
use Rattle.json.specs.Json.{after_end_array}
use Rattle.serde_json.specs.Data.{array, no_items}
use Rattle.alias_straight.specs.Takes.{Takes}
use Rattle.alias_straight.specs.Items.{Lists, before_items}
use Rattle.alias_straight.proofs.Fielding.{takes-shorter}
use Rattle.alias_straight.proofs.Finding.{list_is}
use Rattle.alias_straight.proofs.Listing.{opened_list, one_more, closed_list}
use Rattle.alias_straight.proofs.tokens.ListFromTokens.from_tokens.Goals as goal

pub items-init : goal.items-init
items-init g c = rw c.new-found.ensures.items
    (opened_list g.T.FromJson.reads c.args.depth c.args.reader.now c.open_array.new.reader (omega arith)
    c.in_ok-open_array.ensures)

pub items-smaller : goal.items-smaller
items-smaller g c =
    let same : c.take_end_array.new.self ≡ c.items.reader = grind arith in
    takes-shorter g.T.FromJson.reads (c.args.depth - 1) c.items.reader c.from_tokens.new.reader c.in_ok-item.item
    (subst (λ (l : List Token). Takes g.T.FromJson.reads (c.args.depth - 1) l c.in_ok-item.item
    c.from_tokens.new.reader) same c.in_ok-item.ensures)

pub items-preserved : goal.items-preserved
items-preserved g c =
    let same : c.take_end_array.new.self ≡ c.items.reader = grind arith in
    let going : after_end_array c.items.reader ≡ None = grind arith in
    rw c.in_ok-push.ensures.items
    (one_more g.T.FromJson.reads c.args.depth c.args.reader.now c.items.reader c.from_tokens.new.reader
    c.items.found.items c.in_ok-item.item c.items.invariant going
    (subst (λ (l : List Token). Takes g.T.FromJson.reads (c.args.depth - 1) l c.in_ok-item.item
    c.from_tokens.new.reader) same c.in_ok-item.ensures))

pub returns : goal.returns
returns g c =
    let ended : after_end_array c.items.reader ≡ Some c.take_end_array.new.self = grind arith in
    let so_far : Lists g.T.FromJson.reads c.args.depth c.args.reader.now c.items.found.items c.items.reader =
    c.items.invariant in
    rw c.from_vec.ensures
    (record {
      tree = array (before_items so_far.trees no_items);
      read = closed_list g.T.FromJson.reads c.args.depth c.args.reader.now c.items.reader c.take_end_array.new.self
          c.items.found.items so_far ended;
      is = list_is g.T.FromJson.reads so_far.trees c.items.found.items so_far.are;
    })
