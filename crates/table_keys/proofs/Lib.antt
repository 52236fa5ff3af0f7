pub mod ValueLaws
pub mod ChainLaws
pub mod ShapeLaws
pub mod WholeLaws
pub mod WriteLaws
pub mod WrittenLaws
