pub mod InnerEnable
