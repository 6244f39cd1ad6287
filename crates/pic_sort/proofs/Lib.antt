mod DealtLaws
mod EmptiedLaws
mod LaidLaws
mod ShelfLaws
