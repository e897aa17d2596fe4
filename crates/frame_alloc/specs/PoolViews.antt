-- How the fields of a pool stand for its free frames.
use Rattle.frame_alloc.specs.Pools.{Pool}
use Rattle.frame_alloc.specs.Extents.{frames_of}
use Rattle.frame_alloc.specs.Slots.{extents_in, spare_of, IsExtentList}
use Rattle.frame_alloc.specs.declared.pool.FramePool.TheInside.{Inside}

-- the frames of the extents are free, and slots that are not in use and what is left of the vector's capacity are spare
abbrev pub pool_view : Inside → Pool
pool_view pool = record {
  free = frames_of (extents_in pool.extents);
  spare = spare_of pool.extents;
}

-- the extents are linked by index, ascending, apart and not empty
pub record IsPool (pool : Inside) : Type 0 where
  pub whole : IsExtentList pool.extents
